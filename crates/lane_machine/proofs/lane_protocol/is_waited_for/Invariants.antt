use Rattle.std.proofs.Common.{◌≡◌, drop}
use Rattle.lane_machine.specs.Waits.{wait_among, waits_in}
use Rattle.lane_machine.proofs.lane_protocol.is_waited_for.Given as goal

abbrev pub invariant-loop-place : goal.invariant-loop-place
invariant-loop-place l =
    wait_among (waits_in (drop l.place-index l.places)) l.block ≡ wait_among (waits_in l.places) l.block
