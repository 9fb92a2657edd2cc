-- Where motions end, from where the moves of a run do.
use Rattle.std.proofs.Common.{◌≡◌, ℕ, ◌<◌, ◌≤◌, true, List, length, Option, Some, None, subst, arith}
use Rattle.gdb_remote.specs.declared.request.Direction.TheVariants.{Forwards}
use Rattle.gdb_remote.specs.declared.request.Point.{Point}
use Rattle.gdb_session.specs.declared.target.MotionReach.{MotionReach}
use Rattle.gdb_session.specs.declared.target.Stop.{Stop as Told}
use Rattle.time_machine.specs.declared.stops.StopPoint.{StopPoint}
use Rattle.time_machine.specs.Moves.{EndsBackward}
use Rattle.time_machine.specs.Stand.{Run as Picked}
use Rattle.debugged_run.specs.Motions.{Goes, GoesFrom, place_here, point_met, watches, told_here}

-- behind a run backwards that met a watchpoint a pick comes
pub pick_comes : (r : Picked) (reach : MotionReach) (points : List Point) (stops : List StopPoint) (from : ℕ) (met : Option ℕ) (end : ℕ)
    → from ≤ length r.picks → EndsBackward r stops from met end → watches (point_met reach points met) ≡ true → end < length r.picks
pick_comes r reach points stops from None end within ends watch = absurd (cc)
pick_comes r reach points stops from (Some i) end within ends watch = let e = ends.earlier in omega (arith, e, within)

-- a run that is at a place already stays there
pub stays_here : (r : Picked) (reach : MotionReach) (points : List Point) (from : ℕ) (x : Point) (told : Told) (to : ℕ)
    → Some x ≡ place_here r reach points from → told ≡ told_here r.picks x from → to ≡ from
    → Goes Forwards r reach points from told to
stays_here r reach points from x told to here tells stands =
    subst (λ o. GoesFrom o r reach points from told to) here (tells, stands)

-- a run that is at no place goes from where it stands
pub goes_from_here : (r : Picked) (reach : MotionReach) (points : List Point) (from : ℕ) (told : Told) (to : ℕ)
    → None ≡ place_here r reach points from → GoesFrom None r reach points from told to
    → Goes Forwards r reach points from told to
goes_from_here r reach points from told to none goes =
    subst (λ o. GoesFrom o r reach points from told to) none goes
