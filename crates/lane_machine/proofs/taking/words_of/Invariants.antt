use Rattle.std.proofs.Common.{◌≡◌, ◌*◌, ◌^◌, ◌≤◌}
use Rattle.lane_model.specs.Nodes.{LaneNode}
use Rattle.lane_model.specs.Turns.{words_of}
use Rattle.lane_machine.specs.Stored.{HaveParts}
use Rattle.lane_machine.proofs.taking.words_of.Given as goal

abbrev pub invariant-loop-lane : goal.invariant-loop-lane
invariant-loop-lane l = record {
  words : (x : LaneNode) → HaveParts l.lanes x → l.words ≡ words_of x l.lane-index;
  few : l.words ≤ l.lane-index * 2 ^ 32;
}
