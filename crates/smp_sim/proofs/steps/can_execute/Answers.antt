-- By the standing of the processor's lane.
use Rattle.std.proofs.Common.{◌<◌, ◌*◌, ◌∙◌, ap, sym, subst}
use Rattle.lane_model.specs.node_model.Core.{may_execute}
use Rattle.lane_model.specs.Nodes.{LaneNode, node_of, lane_of, opening_node}
use Rattle.lane_model.specs.Core.{standing_of}
use Rattle.lane_machine.specs.SmpNodes.{lane_work, node_in}
use Rattle.smp_sim.proofs.CoreRuns.{placed}
use Rattle.smp_sim.proofs.CoreSteps.{node_at, read_at}
use Rattle.smp_sim.proofs.steps.can_execute.Goals as goal

pub returns : goal.returns
returns c =
    let w = lane_work c.args.work.now in
    let p = c.args.processor in
    let i = node_of w p in
    let k = lane_of w p in
    let ns = c.args.nodes.now in
    let x = c.index-nodes-node.result in
    let is = c.index-nodes-node.is in
    let few = subst (λ z. p < z * w.lanes) c.nodes.ensures.nodes c.if-processor-count.false in
    let below = subst (λ z. i < z) (sym c.requires.stored.count) (placed w p c.requires.some few) in
    let node = node_at w ns i x c.requires.stored.each below is in
    let s = c.can_execute.ensures.value w i node
    ∙ ap (λ (z : LaneNode). may_execute (standing_of w z k))
    (sym (read_at (node_in w i) ns i x (opening_node w i) below is)) in
    record { value = (λ t. (few, sym s ∙ t), λ may. s ∙ may.1) }
