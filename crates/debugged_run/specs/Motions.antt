-- Where a motion of the debugger ends in a run, and what is told of it.
use Rattle.std.specs.Prelude.{◌≡◌, ℕ, ◌+◌, ◌-◌, min, Bool, true, false, not, if◌then◌else◌, List, [], ◌∷◌, ◌++◌, length, map, filter, slice_get, Option, Some, None}
use Rattle.std.specs.Option.{option_map_or}
use Rattle.gdb_remote.specs.declared.request.Direction.{Direction}
use Rattle.gdb_remote.specs.declared.request.Direction.TheVariants.{Forwards, Backwards}
use Rattle.gdb_remote.specs.declared.request.Point.{Point}
use Rattle.gdb_remote.specs.declared.request.PointKind.{PointKind}
use Rattle.gdb_remote.specs.declared.request.PointKind.TheVariants.{Software, Hardware, Write, Read, Access}
use Rattle.gdb_session.specs.declared.target.Motion.{Motion}
use Rattle.gdb_session.specs.declared.target.MotionReach.{MotionReach}
use Rattle.gdb_session.specs.declared.target.MotionReach.TheVariants.{Run, RunOf, Step}
use Rattle.gdb_session.specs.declared.target.Stop.{Stop as Told}
use Rattle.gdb_session.specs.declared.target.Why.{Why}
use Rattle.gdb_session.specs.declared.target.Why.TheVariants as why
use Rattle.one_memory.specs.declared.Pick.{Pick}
use Rattle.one_memory.specs.declared.Pick.TheVariants as pick
use Rattle.time_machine.specs.declared.stops.StopPoint.{StopPoint}
use Rattle.time_machine.specs.declared.stops.StopPoint.TheVariants.{At, StepOf, Watch as Watched, AtOf, WatchOf}
use Rattle.time_machine.specs.declared.stops.Watch.{Watch}
use Rattle.time_machine.specs.declared.stops.WatchKind.{WatchKind}
use Rattle.time_machine.specs.declared.stops.WatchKind.TheVariants as watch
use Rattle.time_machine.specs.Moves.{EndsForward, EndsBackward}
use Rattle.time_machine.specs.Stand.{Run as Picked, Stand}
use Rattle.time_machine.specs.Stops.{hit_at}

-- whether a point watches bytes, or stops executions
abbrev pub is_watch_by : PointKind → Bool
is_watch_by Software = false
is_watch_by Hardware = false
is_watch_by Write = true
is_watch_by Read = true
is_watch_by Access = true

abbrev pub is_watch : Point → Bool
is_watch x = is_watch_by x.kind

abbrev pub is_place : Point → Bool
is_place x = not (is_watch x)

-- the bytes that a point watches
abbrev pub watch_by : WatchKind → Point → Watch
watch_by kind x = record { kind = kind; address = x.address; size = x.length }

-- what a point stops: an execution at its address, or an access to its bytes
abbrev pub stop_by : PointKind → Point → StopPoint
stop_by Software x = At x.address
stop_by Hardware x = At x.address
stop_by Write x = Watched (watch_by watch.Write x)
stop_by Read x = Watched (watch_by watch.Read x)
stop_by Access x = Watched (watch_by watch.Access x)

abbrev pub stop_at : Point → StopPoint
stop_at x = stop_by x.kind x

-- the same, of one processor alone
abbrev pub alone : (processor : ℕ) → StopPoint → StopPoint
alone p (At a) = AtOf p a
alone p (Watched w) = WatchOf p w
alone p (StepOf q) = StepOf q
alone p (AtOf q a) = AtOf q a
alone p (WatchOf q w) = WatchOf q w

-- a processor's number; 255 stands for each that there can't be
abbrev pub number : ℕ → ℕ
number p = min p 255

-- what a motion stops at: points of any processor, points of one, or a step of one
abbrev pub stops_of : MotionReach → List Point → List StopPoint
stops_of Run points = map stop_at points
stops_of (RunOf p) points = map (λ x. alone (number p) (stop_at x)) points
stops_of (Step p) points = StepOf (number p) ∷ []

-- A step may touch what is watched, and lead to an address that is met then: the access is told of.
-- So watchpoints come first.
abbrev pub watches_first : List Point → List Point
watches_first points = filter is_watch points ++ filter is_place points

-- the processor of a pick: one that makes a step, or whose reservation is broken
abbrev pub mover : Pick → ℕ
mover (pick.Step p) = p
mover (pick.Break p q) = p

-- that of the pick with a number, or processor 0 where there is none
abbrev pub mover_at : List Pick → (k : ℕ) → ℕ
mover_at picks k = option_map_or mover (slice_get picks k) 0

-- the point that was met, where a stop was, and the motion stops at points
abbrev pub point_at : MotionReach → List Point → (i : ℕ) → Option Point
point_at Run points i = slice_get points i
point_at (RunOf p) points i = slice_get points i
point_at (Step p) points i = None

abbrev pub point_met : MotionReach → List Point → Option ℕ → Option Point
point_met reach points None = None
point_met reach points (Some i) = point_at reach points i

abbrev pub watches : Option Point → Bool
watches x = option_map_or is_watch x false

-- The debugger awaits of RISC-V that a watchpoint stops a run before the access: it makes the step
-- itself, and then looks whether the bytes changed. So a run that met one goes back over the access,
-- and a run backwards stands after it.
abbrev pub before_access : Option Point → (position : ℕ) → ℕ
before_access x n = if watches x then n - 1 else n

abbrev pub behind_access : Option Point → (position : ℕ) → ℕ
behind_access x n = if watches x then n + 1 else n

-- forwards, an address is met by a run of any processor before the pick that begins there, and all
-- else after the pick
abbrev pub pick_met : MotionReach → Option Point → (position : ℕ) → ℕ
pick_met Run x n = if option_map_or is_place x false then n else n - 1
pick_met (RunOf p) x n = n - 1
pick_met (Step p) x n = n - 1

abbrev pub why_at : Point → Why
why_at x = why.Point x.kind x.address

-- why a motion stopped: at a point, or after the step that it was to make; or it met nothing
abbrev pub why_of : Option ℕ → Option Point → (otherwise : Why) → Why
why_of None x otherwise = otherwise
why_of (Some i) x otherwise = option_map_or why_at x why.Stepped

-- what is told of a position where a stop was met, or the end of the run
abbrev pub told_forwards : MotionReach → List Pick → Option Point → Option ℕ → (position : ℕ) → Told
told_forwards reach picks x met n =
    record { processor = mover_at picks (pick_met reach x n); why = why_of met x why.End }

-- what is told of a position where a stop was hit, or the beginning of the run
abbrev pub told_backwards : List Pick → Option Point → Option ℕ → (position : ℕ) → Told
told_backwards picks x hit n =
    record { processor = mover_at picks n; why = why_of hit x why.Beginning }

-- The debugger goes on from a place by a step of the processor that stopped there, and then by a run
-- of any. So such a run is at a place already, where the next step begins at one.
abbrev pub place_here : Picked → MotionReach → List Point → (from : ℕ) → Option Point
place_here r Run points from =
    point_met Run (filter is_place points) (hit_at r (map stop_at (filter is_place points)) from)
place_here r (RunOf p) points from = None
place_here r (Step p) points from = None

abbrev pub told_here : List Pick → Point → (position : ℕ) → Told
told_here picks x n = record { processor = mover_at picks n; why = why_at x }

-- forwards from one position the run stays at a place, or goes to another position
abbrev pub GoesFrom : Option Point → Picked → MotionReach → List Point → (from : ℕ) → Told → (to : ℕ)
    → Type 0
GoesFrom (Some x) r reach points from told to =
    (told ≡ told_here r.picks x from) × (to ≡ from)
GoesFrom None r reach points from told to =
    (met : Option ℕ) × (end : ℕ)
    × EndsForward r (stops_of reach points) from (length r.picks) met end
    × (told ≡ told_forwards reach r.picks (point_met reach points met) met end)
    × (to ≡ before_access (point_met reach points met) end)

-- from one position the run goes to another, and this is told of it
abbrev pub Goes : Direction → Picked → MotionReach → List Point → (from : ℕ) → Told → (to : ℕ) → Type 0
Goes Forwards r reach points from told to =
    GoesFrom (place_here r reach points from) r reach points from told to
Goes Backwards r reach points from told to =
    (hit : Option ℕ) × (end : ℕ)
    × EndsBackward r (stops_of reach points) from hit end
    × (told ≡ told_backwards r.picks (point_met reach points hit) hit end)
    × (to ≡ behind_access (point_met reach points hit) end)

abbrev pub Moves : Stand → Motion → List Point → Told → Stand → Type 0
Moves s m points told t =
    (t.run ≡ s.run)
    × Goes m.direction s.run m.reach (watches_first points) s.position told t.position
