use Rattle.std.proofs.Common.{◌≡◌, ◌≤◌, length}
use Rattle.std.specs.Vec.{vec_capacity}
use Rattle.lane_machine.specs.SmpNodes.{lane_work}
use Rattle.lane_machine.specs.SmpNodes.{AreFirstLanes}
use Rattle.lane_machine.proofs.node.first_lanes.Given as goal

abbrev pub invariant-loop-lane : goal.invariant-loop-lane
invariant-loop-lane l = record {
  len : length l.lanes.items ≡ l.lane;
  room : l.count ≤ vec_capacity l.lanes;
  first : AreFirstLanes (lane_work l.work) l.me l.lane l.lanes.items;
}
