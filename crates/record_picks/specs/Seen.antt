-- Helps the code alone: the picks of events, by what is traced of them.
use Rattle.std.specs.Prelude.{◌≡◌, ℕ, if◌then◌else◌, List, [], ◌∷◌, ◌++◌, Option, Some, None, flat_map}
use Rattle.rv32_step.specs.OneMemory.{Pick, Step, Break}
use Rattle.run_trace.specs.declared.tracer.Tracer.{Tracer}
use Rattle.run_trace.specs.Tracing.{HasTraced}
use Rattle.run_trace.specs.Traced.{OfTake, Traced, What, Word, Taken}

-- a break of the node's reservation, for the node that a message names
abbrev pub break_for : (node : ℕ) → Option ℕ → List Pick
break_for node None = []
break_for node (Some by) = Break node by ∷ []

abbrev pub break_seen : (node : ℕ) → OfTake → List Pick
break_seen node t = if t.clears then break_for node t.message.requester else []

abbrev pub picks_by : (node : ℕ) → What → List Pick
picks_by node (Word w) = if w.commits then Step node ∷ [] else []
picks_by node (Taken t) = break_seen node t

abbrev pub picks_seen : Traced → List Pick
picks_seen x = picks_by x.node x.what

abbrev pub all_seen : List Traced → List Pick
all_seen trace = flat_map picks_seen trace

-- events more were made, and their picks appended
pub record HasPickedOn (t : Tracer) (seen : List Traced) (before now : List Pick) : Type 0 where
  pub more : List Traced
  pub traced : HasTraced t (seen ++ more)
  pub picks_are : now ≡ before ++ all_seen more
