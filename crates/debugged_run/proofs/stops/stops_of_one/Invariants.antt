use Rattle.std.proofs.Common.{◌≡◌, take}
use Rattle.std.specs.Prelude.{map}
use Rattle.debugged_run.specs.Motions.{alone, stop_at}
use Rattle.debugged_run.proofs.stops.stops_of_one.Given as goal

abbrev pub invariant-loop-point : goal.invariant-loop-point
invariant-loop-point l = l.stops.items ≡ map (λ x. alone l.p (stop_at x)) (take l.point-index l.points)
