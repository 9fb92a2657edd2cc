use Rattle.std.proofs.Common.{◌≡◌, drop}
use Rattle.lane_machine.specs.Waits.{wait_among, waits_in, all_waits}
use Rattle.lane_machine.proofs.lane_protocol.need_of.Given as goal

abbrev pub invariant-loop-place : goal.invariant-loop-place
invariant-loop-place l =
    wait_among (waits_in (drop l.place-index l.places)) l.block ≡ wait_among (all_waits l.protocol l.places) l.block
