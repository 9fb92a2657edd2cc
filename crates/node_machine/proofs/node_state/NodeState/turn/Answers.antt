use Rattle.std.proofs.Common.{◌∙◌, ◌++◌, ap, cond, List}
use Rattle.node_words.specs.dsm_messages.declared.messages.Post.{Post}
use Rattle.node_words.specs.declared.exec_state.ExecState.{ExecState}
use Rattle.node_words.specs.node_model.Turns.{byes_to, is_ended}
use Rattle.node_machine.specs.NodeState.{node_of, layout_of, phase_of}
use Rattle.node_machine.specs.ProtocolState.{turn_by}
use Rattle.node_machine.proofs.NodeStateLemmas.{byes_by}
use Rattle.node_machine.proofs.node_state.NodeState.turn.Goals as goal

pub returns-clause-turn : goal.returns-clause-turn
returns-clause-turn c =
    let f = c.args.self.now in
    let posts = c.args.sends.now.items in
    let nodes = c.nodes.ensures.nodes ∙ ap (λ (b : ExecState). (layout_of b).nodes) c.deref.ensures in
    ap (λ (x : List Post). turn_by (node_of f) x c.args.output)
    (c.add_byes.ensures ∙ (λ t. cond (c.has_ended.ensures t) (posts ++ byes_to (nodes t)) posts))
    ∙ byes_by (layout_of f.shared.body.value).nodes (node_of f) posts c.args.output (is_ended (phase_of f.lane.phase))
