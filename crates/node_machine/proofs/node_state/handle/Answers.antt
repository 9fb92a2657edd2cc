use Rattle.std.proofs.Common.{◌∙◌}
use Rattle.node_words.specs.home_directory.Effects.{members}
use Rattle.node_machine.specs.NodeState.{layout_of, with_all}
use Rattle.node_machine.proofs.TakeLemmas.{handled_other}
use Rattle.node_machine.proofs.node_state.handle.Goals as goal

pub returns-in_default-clause-turn : goal.returns-in_default-clause-turn
returns-in_default-clause-turn c n me =
    handled_other (layout_of c.args.body.now) (with_all n c.args.body.now c.args.protocol.now c.args.byes.now) c.args.from c.args.message c.in_default.not-Bye
    ∙ c.handle.ensures.turn (record n { byes = members c.args.byes.now }) me
