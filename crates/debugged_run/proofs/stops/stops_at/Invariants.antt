use Rattle.std.proofs.Common.{◌≡◌, take}
use Rattle.std.specs.Prelude.{map}
use Rattle.debugged_run.specs.Motions.{stop_at}
use Rattle.debugged_run.proofs.stops.stops_at.Given as goal

abbrev pub invariant-loop-point : goal.invariant-loop-point
invariant-loop-point l = l.stops.items ≡ map stop_at (take l.point-index l.points)
