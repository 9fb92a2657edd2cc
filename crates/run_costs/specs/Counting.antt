-- Helps the code alone: a recorded run whose words are counted, event by event.
use Rattle.std.specs.Prelude.{◌≡◌, ◌+◌, ◌<◌, ℕ, Bool, true, false, List, ◌∷◌, [], ◌++◌, length, map, replicate, slice_index_or}
use Rattle.std.specs.List.{count_by}
use Rattle.check_costs.specs.elf_symbols.Symbols.{Symbol}
use Rattle.check_costs.specs.Given.{IsTallyOf}
use Rattle.check_costs.specs.declared.labels.Label.{Label}
use Rattle.check_costs.specs.Tally.{Executed, first_label, labels_of}
use Rattle.run_trace.specs.node_model.jump_map.templates.declared.plans.PlanEntry.{PlanEntry}
use Rattle.run_trace.specs.node_model.Node.{Work, Node}
use Rattle.run_trace.specs.node_model.Core.{Event, Exec, Take, opening_core}
use Rattle.run_trace.specs.replay.dsm_core.CoreParts.{core_of}
use Rattle.run_trace.specs.replay.Way.{core_in}
use Rattle.run_trace.specs.replay.run_record.declared.Record.{Record}
use Rattle.run_trace.specs.Trace.{IsTraceOf}
use Rattle.run_trace.specs.Traced.{Traced, What, Word, Taken}
use Rattle.run_trace.specs.Tracing.{AreVisitsOf, HasTraced, IsSame, events_to_trace, kinds_traced, plan_traced, record_traced, replayer_in, work_traced}
use Rattle.run_trace.specs.Visited.{commits_visited}
use Rattle.run_trace.specs.declared.kinds.CommitKinds.{CommitKinds}
use Rattle.word_visits.specs.Visits.{WordVisits}
use Rattle.word_visits.specs.VisitTables.{visits_of}
use Rattle.run_costs.specs.declared.counting.Counting.{Counting}
use Rattle.run_costs.specs.Costs.{words_from}

abbrev pub work_in : Counting → Work
work_in c = work_traced c.tracer

abbrev pub plan_in : Counting → List PlanEntry
plan_in c = plan_traced c.tracer

abbrev pub record_in : Counting → Record
record_in c = record_traced c.tracer

-- a node, as the events made so far have left it
abbrev pub node_in : Counting → (node : ℕ) → Node
node_in c i = (core_of (core_in (replayer_in c.tracer))).nodes i

-- an event, by what is traced of it
abbrev pub event_by : (node : ℕ) → What → Event
event_by node (Word w) = Exec node
event_by node (Taken t) = Take node t.from

abbrev pub event_seen : Traced → Event
event_seen x = event_by x.node x.what

-- the words of a trace
abbrev pub words_seen : List Symbol → Work → List PlanEntry → List Traced → List Executed
words_seen symbols work plan seen =
    words_from symbols work plan (opening_core work) (map event_seen seen)

-- the word of a number, each time that it counts
abbrev pub word_by : (first : Label) → List Label → CommitKinds → (number : ℕ) → Executed
word_by first labels kinds k = record {
  label = slice_index_or labels k first;
  commits = commits_visited kinds k;
}

-- the words that visits stand for, of the numbers from this one on
abbrev pub words_by : (ℕ → Executed) → (number : ℕ) → List WordVisits → List Executed
words_by word k [] = []
words_by word k (v ∷ vs) = replicate v.times (word k) ++ words_by word (k + 1) vs

-- those that were counted by their numbers
abbrev pub words_visited : List Symbol → Counting → List Executed
words_visited symbols c =
    words_by (word_by (first_label symbols) c.labels.items (kinds_traced c.tracer)) 0
    (visits_of c.visits)

-- as many of the first words pass each test as of the others together
abbrev pub AreSplit : (all some others : List Executed) → Type 0
AreSplit all some others =
    (p : Executed → Bool) → count_by p all ≡ count_by p some + count_by p others

-- events were made that did this, and their words were counted: some one by one, and the others by
-- their numbers
pub record HasCounted (symbols : List Symbol) (c : Counting) (seen : List Traced) : Type 0 where
  pub traced : HasTraced c.tracer seen
  pub labels : c.labels.items ≡ labels_of symbols (work_in c).program.code (plan_in c)
  pub visits : AreVisitsOf c.tracer c.visits
  pub singly : List Executed
  pub tallied : IsTallyOf (length symbols) singly c.tally
  pub split : AreSplit (words_seen symbols (work_in c) (plan_in c) seen) singly
      (words_visited symbols c)

-- some events more were made
abbrev pub HasCountedMore : List Symbol → Counting → List Traced → Type 0
HasCountedMore symbols c seen = (more : List Traced) × HasCounted symbols c (seen ++ more)

-- the words of a whole run were counted
pub record HasCountedAll (symbols : List Symbol) (c : Counting) (seen : List Traced) : Type 0 where
  pub counted : HasCounted symbols c seen
  pub trace : IsTraceOf (work_in c) (plan_in c) (record_in c) seen

-- some events more were made, or all were
abbrev pub HasGoneOn : List Symbol → Counting → List Traced → (more : Bool) → Type 0
HasGoneOn symbols c seen true = HasCountedMore symbols c seen
HasGoneOn symbols c seen false = HasCountedAll symbols c seen

-- fewer are left to be made
abbrev pub IsFewer : (old new : Counting) → (more : Bool) → Type 0
IsFewer old new true = events_to_trace new.tracer < events_to_trace old.tracer
IsFewer old new false = Unit {0}

-- the same run
abbrev pub IsSameRun : (old new : Counting) → Type 0
IsSameRun old new = IsSame old.tracer new.tracer
