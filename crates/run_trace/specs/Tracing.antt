-- A recorded run that is made once more, event by event.
use Rattle.std.specs.Prelude.{◌≡◌, ◌<◌, ℕ, Bool, List, ◌∷◌, [], ◌++◌, replicate, Option, None, Some}
use Rattle.templates.specs.declared.plans.PlanEntry.{PlanEntry}
use Rattle.replay.specs.node_model.Node.{Work}
use Rattle.replay.specs.node_model.Core.{Event, Exec, May}
use Rattle.replay.specs.run_record.declared.Record.{Record}
use Rattle.replay.specs.dsm_core.CoreParts.{work_of, core_of}
use Rattle.replay.specs.declared.events.Replayer.{Replayer}
use Rattle.word_visits.specs.declared.visits.Visits.{Visits}
use Rattle.word_visits.specs.VisitTables.{AreVisitsIn, visits_of}
use Rattle.replay.specs.Told.{Told, events_told}
use Rattle.replay.specs.Way.{HasMade, core_in, record_in, events_left}
use Rattle.run_trace.specs.declared.kinds.CommitKinds.{CommitKinds}
use Rattle.run_trace.specs.declared.tracer.Tracer.{Tracer}
use Rattle.run_trace.specs.declared.traced.Traced.{Traced as Stored}
use Rattle.run_trace.specs.Traced.{OfWord, Traced, Word, traced_at, word_traced}
use Rattle.run_trace.specs.Kinds.{AreKindsOf}
use Rattle.run_trace.specs.Visited.{LookByKind}
use Rattle.run_trace.specs.Trace.{trace_of, IsTraceOf}
use Rattle.run_trace.specs.Given.{traced_of}

abbrev pub replayer_in : Tracer → Replayer
replayer_in t = t.replayer

abbrev pub work_traced : Tracer → Work
work_traced t = work_of (core_in t.replayer)

abbrev pub plan_traced : Tracer → List PlanEntry
plan_traced t = t.plan.now

abbrev pub record_traced : Tracer → Record
record_traced t = record_in t.replayer

abbrev pub kinds_traced : Tracer → CommitKinds
kinds_traced t = t.kinds

-- it knows when the words of the rewritten code commit
abbrev pub HasKinds : Tracer → Type 0
HasKinds t = AreKindsOf (work_traced t).program (plan_traced t) (work_traced t).image t.kinds

-- these are what the events did that were made so far
pub record HasTraced (t : Tracer) (seen : List Traced) : Type 0 where
  pub before : List Told
  pub made : HasMade t.replayer before
  pub kinds : HasKinds t
  pub seen_is : seen ≡ trace_of (work_traced t) (plan_traced t) before

-- one more is given, or all were
abbrev pub HasGoneOn : Tracer → List Traced → Option Stored → Type 0
HasGoneOn t seen None = IsTraceOf (work_traced t) (plan_traced t) (record_traced t) seen
HasGoneOn t seen (Some x) = HasTraced t (seen ++ traced_of x ∷ [])

-- how many events are left to be made
abbrev pub events_to_trace : Tracer → ℕ
events_to_trace t = events_left t.replayer

-- fewer are left, where one was made
abbrev pub IsFewer : (old new : Tracer) → Option Stored → Type 0
IsFewer old new None = Unit {0}
IsFewer old new (Some x) = events_to_trace new < events_to_trace old

-- this event was made, which did this
pub record HasTracedOne (old new : Tracer) (before : List Told) (e : Event) (x : Stored) : Type 0
  where
    pub told : Told
    pub event_is : told.what.event ≡ e
    pub made : HasMade new.replayer (before ++ told ∷ [])
    pub may : May (work_traced old) (core_of (core_in old.replayer)) told.what.event
    pub is : traced_at (work_traced old) (plan_traced old) (core_of (core_in old.replayer)) told.what
        ≡ Some (traced_of x)

-- a word that only computes or accesses memory was made, and commits so
pub record HasTracedSilent (old new : Tracer) (seen : List Traced) (node : ℕ) (commits : Bool)
    : Type 0
  where
    pub stamp : ℕ
    pub word : OfWord
    pub word_is : word
        ≡ word_traced (work_traced old) (plan_traced old)
        ((core_of (core_in old.replayer)).nodes node)
    pub commits_so : word.commits ≡ commits
    pub traced : HasTraced new (seen ++ record { stamp = stamp; node = node; what = Word word } ∷ [])

-- such a word was made, or none
abbrev pub HasTracedIfSilent : (old new : Tracer) → List Traced → (node : ℕ) → Option Bool → Type 0
HasTracedIfSilent old new seen node None = HasTraced new seen
HasTracedIfSilent old new seen node (Some commits) = HasTracedSilent old new seen node commits

-- these events were made after those that were told of before
pub record HasTracedMore (new : Tracer) (seen : List Traced) (before : List Told)
    (events : List Event) : Type 0 where
  pub told : List Told
  pub events_are : events_told told ≡ events
  pub more : List Traced
  pub traced : HasTraced new (seen ++ more)
  pub before_is : traced.before ≡ before ++ told

-- so many words of a node were
abbrev pub HasTracedWords : (new : Tracer) → List Traced → List Told → (node words : ℕ) → Type 0
HasTracedWords new seen before node words =
    HasTracedMore new seen before (replicate words (Exec node))

-- these are visits of the words that a run makes
pub record AreVisitsOf (t : Tracer) (visits : Visits) : Type 0 where
  pub micros : AreVisitsIn (work_traced t).image visits
  pub look : LookByKind t.kinds (visits_of visits)

-- the same rewritten code, plan and record
pub record IsSame (old new : Tracer) : Type 0 where
  pub work : work_traced new ≡ work_traced old
  pub plan : plan_traced new ≡ plan_traced old
  pub rec_is : record_traced new ≡ record_traced old
  pub kinds : new.kinds ≡ old.kinds
