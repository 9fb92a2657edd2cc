use Rattle.std.proofs.Common.{◌≡◌, ◌+◌, drop}
use Rattle.lane_machine.specs.Waits.{wait_among, place_among, waits_in}
use Rattle.lane_machine.proofs.lane_protocol.holder_of.Given as goal

abbrev pub invariant-loop-lane : goal.invariant-loop-lane
invariant-loop-lane l = record {
  wait : wait_among (waits_in (drop l.lane l.places)) l.block ≡ wait_among (waits_in l.places) l.block;
  holder : l.lane + place_among (waits_in (drop l.lane l.places)) l.block ≡ place_among (waits_in l.places) l.block;
}
