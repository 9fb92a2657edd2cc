use Rattle.std.proofs.Common.{◌≡◌, ℕ, true}
use Rattle.lane_model.specs.Nodes.{LaneWork, all_lanes}
use Rattle.lane_model.specs.Core.{lane_lets}
use Rattle.lane_machine.specs.SmpNodes.{IsNode, node_in}
use Rattle.lane_machine.proofs.node.SmpNode.all_let.Given as goal

abbrev pub invariant-loop-lane : goal.invariant-loop-lane
invariant-loop-lane l = record {
  all : (w : LaneWork) (i : ℕ) → IsNode w l.self
      → all_lanes (lane_lets w (node_in w i l.self)) l.lane ≡ true;
}
