-- By what the protocol does.
use Rattle.std.proofs.Common.{◌≡◌, [], sym, subst}
use Rattle.node_words.specs.node_model.Turns.{want_all, each_block_once}
use Rattle.node_words.specs.Kept.{wants_by}
use Rattle.node_machine.specs.NodeState.{layout_of, with_parts}
use Rattle.node_machine.specs.ProtocolState.{turn_by}
use Rattle.node_machine.specs.Wanted.{wants_along, wanted_list}
use Rattle.node_machine.proofs.node_state.ask.Goals as goal

pub returns-in-Waits-clause-turn : goal.returns-in-Waits-clause-turn
returns-in-Waits-clause-turn c n p =
    let body = c.args.body.now in
    let l = layout_of body in
    subst (λ f. want_all l (turn_by (with_parts n body c.args.protocol.now) [] p) (each_block_once l (wants_by f))
    ≡ turn_by (with_parts n c.want.new.body c.want.new.self) c.want.new.sends.items p) (sym c.in-Waits.is) (c.want.ensures.turn n p)

pub returns-in-Waits-clause-wants : goal.returns-in-Waits-clause-wants
returns-in-Waits-clause-wants c n p =
    let body = c.args.body.now in
    let l = layout_of body in
    subst (λ f. wants_along l (turn_by (with_parts n body c.args.protocol.now) [] p) (each_block_once l (wants_by f))
    ≡ wanted_list c.want.result) (sym c.in-Waits.is) (c.want.ensures.wants n p)
