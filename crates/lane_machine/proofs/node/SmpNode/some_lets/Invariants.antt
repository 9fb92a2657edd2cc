use Rattle.std.proofs.Common.{◌≡◌, ℕ, false}
use Rattle.lane_model.specs.Nodes.{LaneWork, some_lane}
use Rattle.lane_model.specs.Core.{lane_lets}
use Rattle.lane_machine.specs.SmpNodes.{IsNode, node_in}
use Rattle.lane_machine.proofs.node.SmpNode.some_lets.Given as goal

abbrev pub invariant-loop-lane : goal.invariant-loop-lane
invariant-loop-lane l = record {
  some : (w : LaneWork) (i : ℕ) → IsNode w l.self
      → some_lane (lane_lets w (node_in w i l.self)) l.lane ≡ false;
}
