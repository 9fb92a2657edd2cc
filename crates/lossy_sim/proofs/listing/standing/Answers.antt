-- The node that was read is the node of the state.
use Rattle.std.proofs.Common.{◌∙◌, sym, ap}
use Rattle.node_model.specs.Node.{opening_node, standing_of}
use Rattle.dsm_core.specs.node_machine.NodeState.{node_of, work_of as work_at}
use Rattle.dsm_core.proofs.CoreSteps.{read_at}
use Rattle.lossy_sim.proofs.listing.standing.Goals as goal

pub returns : goal.returns
returns c =
    let ns = c.args.nodes.now in
    let i = c.args.node in
    let x = c.index-nodes-node.result in
    let is = c.index-nodes-node.is in
    let below = c.requires.node in
    record {
      value = λ work have. c.standing.ensures.value
          ∙ ap (λ z. standing_of z (node_of x)) (sym (read_at work_at ns i x work below is) ∙ have i)
          ∙ ap (standing_of work) (sym (read_at node_of ns i x (opening_node work i) below is));
    }
