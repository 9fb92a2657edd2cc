-- By the node of the processor.
use Rattle.std.proofs.Common.{◌≡◌, ◌<◌, ◌/◌, ◌%◌, ◌∙◌, ap, subst, sym}
use Rattle.lane_model.specs.Nodes.{LaneNode}
use Rattle.lane_model.specs.Core.{standing_of}
use Rattle.smp_sim.specs.CoreParts.{core_of, work_of}
use Rattle.smp_sim.proofs.CoreRuns.{lane_low, placed}
use Rattle.smp_sim.proofs.cores.SmpCore.standing.Goals as goal

pub node-requires : goal.node-requires
node-requires c =
    let w = work_of c.args.self.now in
    let q = c.args.processor in
    record {
      node = subst (λ z. q / z < w.work.layout.nodes) (sym c.lanes-lanes.ensures.value)
          (placed w q c.lanes-lanes.ensures.some c.requires.processor);
    }

pub standing-requires : goal.standing-requires
standing-requires c =
    let w = work_of c.args.self.now in
    let q = c.args.processor in
    record {
      lane = subst (λ z. q % c.lanes-lanes.result < z) (sym c.node.ensures.is_node.lanes.count)
          (subst (λ z. q % z < w.lanes) (sym c.lanes-lanes.ensures.value)
          (lane_low w q c.lanes-lanes.ensures.some));
    }

pub returns : goal.returns
returns c =
    let w = work_of c.args.self.now in
    let core = core_of c.args.self.now in
    let q = c.args.processor in
    let m = c.lanes-lanes.result in
    record {
      value = subst (λ z. c.standing.result ≡ standing_of w (core.nodes (q / z)) (q % z))
          c.lanes-lanes.ensures.value (c.standing.ensures.value w (q / m) c.node.ensures.is_node
          ∙ ap (λ (x : LaneNode). standing_of w x (q % m)) c.node.ensures.value);
    }
