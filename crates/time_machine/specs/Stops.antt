-- What a run is to stop at, and where it is met.
use Rattle.std.specs.Prelude.{ℕ, ◌+◌, Bool, true, false, ◌==◌, ◌&&◌, nat_lt, if◌then◌else◌, Option, Some, None, option_and_then, List, position, slice_get}
use Rattle.std.specs.Option.{option_map_or}
use Rattle.rv32_decode.specs.Widths.{size_of, width_of}
use Rattle.rv32_step.specs.OneMemory.{Original, State, Pick, Step, Break, Access, Nothing, Reads, Writes, WritesIf, Exchanges, step}
use Rattle.time_machine.specs.declared.stops.StopPoint.{StopPoint}
use Rattle.time_machine.specs.declared.stops.StopPoint.TheVariants.{At, StepOf, Watch as Watched, AtOf, WatchOf}
use Rattle.time_machine.specs.declared.stops.Watch.{Watch}
use Rattle.time_machine.specs.declared.stops.WatchKind.{WatchKind}
use Rattle.time_machine.specs.declared.stops.WatchKind.TheVariants as watch
use Rattle.time_machine.specs.declared.step.TouchedBytes.{TouchedBytes}
use Rattle.time_machine.specs.declared.step.TouchKind.{TouchKind}
use Rattle.time_machine.specs.declared.step.TouchKind.TheVariants as touch
use Rattle.time_machine.specs.declared.step.NextStep.{NextStep}
use Rattle.time_machine.specs.Stand.{Run, original_in, picks_in, state_at}

-- how an access touches memory; a conditional store that doesn't store touches none
abbrev pub touch_of : Access → Option TouchedBytes
touch_of Nothing = None
touch_of (Reads kind a value) =
    Some (record { kind = touch.Reads; address = a; size = size_of (width_of kind) })
touch_of (Writes width a value) =
    Some (record { kind = touch.Writes; address = a; size = size_of width })
touch_of (WritesIf a value true) =
    Some (record { kind = touch.Writes; address = a; size = 4 })
touch_of (WritesIf a value false) = None
touch_of (Exchanges a old new) =
    Some (record { kind = touch.Exchanges; address = a; size = 4 })

-- the step that processor p makes next: where it begins, unless it goes on with a call, and what it
-- touches
abbrev pub next_step : Original → State → (p : ℕ) → NextStep
next_step original s p = record {
  processor = p;
  start = if (s.processors p).written == 0 then Some (s.processors p).pc else None;
  touch = touch_of (step original s p).access;
}

abbrev pub step_by : Original → State → Pick → Option NextStep
step_by original s (Step p) = Some (next_step original s p)
step_by original s (Break p q) = None

-- the step that pick k is, if it is one
abbrev pub step_at : Run → (k : ℕ) → Option NextStep
step_at r k = option_and_then (step_by (original_in r) (state_at r k)) (slice_get (picks_in r) k)

abbrev pub concerns : WatchKind → TouchKind → Bool
concerns watch.Write touch.Reads = false
concerns watch.Read touch.Writes = false
concerns w t = true

-- the ranges have a byte in common, and it is touched as the watch says
abbrev pub is_watched : Watch → TouchedBytes → Bool
is_watched w t =
    (concerns w.kind t.kind && nat_lt w.address (t.address + t.size))
    && nat_lt t.address (w.address + w.size)

-- a step is what the stop names: it begins at an address, it is a processor's, or it touches what
-- is watched; or it is a processor's, and does one of both
abbrev pub hits : StopPoint → NextStep → Bool
hits (At a) n = option_map_or (λ pc. pc == a) n.start false
hits (StepOf p) n = n.processor == p
hits (Watched w) n = option_map_or (is_watched w) n.touch false
hits (AtOf p a) n = n.processor == p && option_map_or (λ pc. pc == a) n.start false
hits (WatchOf p w) n = n.processor == p && option_map_or (is_watched w) n.touch false

abbrev pub is_hit : Option NextStep → StopPoint → Bool
is_hit n stop = option_map_or (hits stop) n false

-- where the processor of a pick stands, unless it goes on with a call
abbrev pub came_by : Original → State → Pick → Option ℕ
came_by original s (Step p) = (next_step original s p).start
came_by original s (Break p q) = None

-- where the processor of pick k stands after it
abbrev pub came_at : Run → (k : ℕ) → Option ℕ
came_at r k =
    option_and_then (came_by (original_in r) (state_at r (k + 1))) (slice_get (picks_in r) k)

-- Between a step that was made and the next: an address is met before a step that begins there, an
-- address of one processor as soon as this has come there, and all else after the step that hits
-- it.
abbrev pub is_met : (made next : Option NextStep) → (came : Option ℕ) → StopPoint → Bool
is_met made next came (At a) = is_hit next (At a)
is_met made next came (StepOf p) = is_hit made (StepOf p)
is_met made next came (Watched w) = is_hit made (Watched w)
is_met made next came (AtOf p a) =
    is_hit made (StepOf p) && option_map_or (λ pc. pc == a) came false
is_met made next came (WatchOf p w) = is_hit made (WatchOf p w)

-- the first of the stops that pick k hits
abbrev pub hit_at : Run → List StopPoint → (k : ℕ) → Option ℕ
hit_at r stops k = position (is_hit (step_at r k)) stops

-- the first of the stops that is met after pick k
abbrev pub met_behind : Run → List StopPoint → (k : ℕ) → Option ℕ
met_behind r stops k =
    position (is_met (step_at r k) (step_at r (k + 1)) (came_at r k)) stops
