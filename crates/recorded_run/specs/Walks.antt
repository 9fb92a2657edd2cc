-- Helps the code alone: a walk along a recorded run, and what a shown run keeps.
use Rattle.std.specs.Prelude.{◌≡◌, ℕ, ◌+◌, ◌≤◌, ◌⊎◌, Bool, true, ◌==◌, ◌&&◌, ◌||◌, nat_lt, List, [], ◌∷◌, ◌++◌, All, length, Option, Some, None}
use Rattle.templates.specs.declared.code.CodeWord.{CodeWord}
use Rattle.templates.specs.declared.plans.PlanEntry.{PlanEntry}
use Rattle.templates.specs.Code.{HasCode}
use Rattle.event_text.specs.run_trace.node_model.Node.{Work}
use Rattle.event_text.specs.replay.Replay.{TellsWholeRun}
use Rattle.event_text.specs.replay.Told.{Told}
use Rattle.event_text.specs.replay.dsm_core.CoreParts.{work_in}
use Rattle.event_text.specs.replay.dsm_core.declared.work.Work.{Work as Asked}
use Rattle.event_text.specs.replay.run_record.declared.Record.{Record}
use Rattle.event_text.specs.replay.run_record.Record.{IsRecord}
use Rattle.event_text.specs.run_trace.declared.traced.Traced.{Traced as Stored}
use Rattle.event_text.specs.run_trace.declared.tracer.Tracer.{Tracer}
use Rattle.event_text.specs.run_trace.Given.{traced_of}
use Rattle.event_text.specs.run_trace.Trace.{IsTraceOf}
use Rattle.event_text.specs.run_trace.Traced.{Traced}
use Rattle.event_text.specs.run_trace.Tracing.{HasTraced, work_traced, plan_traced, record_traced}
use Rattle.debugged_run.specs.one_memory.declared.Pick.{Pick}
use Rattle.debugged_run.specs.time_machine.Stand.{Stand}
use Rattle.recorded_run.specs.declared.walk.LastEvent.{LastEvent}
use Rattle.recorded_run.specs.declared.walk.Walk.{Walk}
use Rattle.recorded_run.specs.Shown.{Recorded, AreFewest, AreUpTo, StandsFor, last_of, picks_made}
use Rattle.recorded_run.specs.Shown.{work_shown}
use Rattle.recorded_run.specs.Tells.{IsNoMiss, is_miss}

-- the tracer of a walk
abbrev pub tracer_of : Walk → Tracer
tracer_of w = w.tracer

-- these events were made, and the walk counts their picks
pub record HasCounted (w : Walk) (seen : List Traced) : Type 0 where
  pub traced : HasTraced w.tracer seen
  pub picks_are : w.picks ≡ picks_made seen

-- it has the last of them, too, and may know that no fewer events make so many picks
pub record HasWalked (w : Walk) (seen : List Traced) : Type 0 where
  pub counted : HasCounted w seen
  pub last_is : w.last ≡ last_of seen
  pub fewest : w.fewest ≡ true → AreFewest w.picks seen

-- a walk has made some events
abbrev pub IsCounting : Walk → Type 0
IsCounting w = (seen : List Traced) × HasCounted w seen

abbrev pub IsWalking : Walk → Type 0
IsWalking w = (seen : List Traced) × HasWalked w seen

-- a walk has made more events
abbrev pub HasCountedOn : Walk → List Traced → Type 0
HasCountedOn w seen = (more : List Traced) × HasCounted w (seen ++ more)

-- a walk is along the run of this record
pub record IsAlong (work : Work) (plan : List PlanEntry) (r : Record) (w : Walk) : Type 0 where
  pub work_is : work_traced w.tracer ≡ work
  pub plan_is : plan_traced w.tracer ≡ plan
  pub rec_is : record_traced w.tracer ≡ r

-- a walk stays along the same run
abbrev pub StaysAlong : (old new : Walk) → Type 0
StaysAlong old new =
    IsAlong (work_traced old.tracer) (plan_traced old.tracer) (record_traced old.tracer) new

-- the record tells of a whole run
abbrev pub TellsWhole : Work → Record → Type 0
TellsWhole work r = (told : List Told) × TellsWholeRun work r told

-- the run along which a walk is stands for these picks
abbrev pub IsOfPicks : Walk → List Pick → Type 0
IsOfPicks w picks =
    StandsFor (work_traced w.tracer) (plan_traced w.tracer) (record_traced w.tracer) picks

-- one event more was made, or all were
abbrev pub GoesOn : Walk → List Traced → Option Stored → Type 0
GoesOn w seen None =
    IsTraceOf (work_traced w.tracer) (plan_traced w.tracer) (record_traced w.tracer) seen
GoesOn w seen (Some x) = HasWalked w (seen ++ traced_of x ∷ [])

-- an event makes one pick, and no fewer events make so many; or none
abbrev pub MakesOne : (old new : Walk) → Option Stored → Type 0
MakesOne old new None = new.picks ≡ old.picks
MakesOne old new (Some x) =
    (new.picks ≡ old.picks) ⊎ ((new.picks ≡ old.picks + 1) × (new.fewest ≡ true))

-- the events make some of these picks, or all of them where no event is left
abbrev pub CountsPicks : Walk → List Pick → Option Stored → Type 0
CountsPicks w picks None = w.picks ≡ length picks
CountsPicks w picks (Some x) = w.picks ≤ length picks

-- a walk comes to the fewest events that make so many picks
abbrev pub comes_to : Walk → (k : ℕ) → Bool
comes_to w k = nat_lt w.picks k || (w.picks == k && w.fewest)

-- the events up to the next that is a miss were made, or all were
abbrev pub GoesToNext : Walk → List Traced → Option Stored → Type 0
GoesToNext w seen None =
    (more : List Traced) × All IsNoMiss more
    × IsTraceOf (work_traced w.tracer) (plan_traced w.tracer) (record_traced w.tracer)
    (seen ++ more)
GoesToNext w seen (Some x) =
    (more : List Traced) × All IsNoMiss more
    × HasWalked w (seen ++ (more ++ traced_of x ∷ []))
    × (is_miss (traced_of x) ≡ true)

-- a walk that is kept is along the run, and has made some events
abbrev pub IsKept : Work → List PlanEntry → Record → Option Walk → Type 0
IsKept work plan r None = Unit {0}
IsKept work plan r (Some w) = IsAlong work plan r w × IsWalking w

-- the walk that is kept stands after this event
abbrev pub StandsBehind : Option Walk → LastEvent → Type 0
StandsBehind None e = ⊥
StandsBehind (Some w) e = w.last ≡ Some e

-- what is true of a recorded run that is shown
pub record HoldsTogether (stand : Stand) (asked : Asked) (plan : List PlanEntry)
    (code : List CodeWord) (kept : Record) (walk : Option Walk) (behind : Option LastEvent) : Type 0
  where
    pub program : stand.run.program ≡ asked.program.now
    pub layout : stand.run.layout ≡ asked.layout.now
    pub as_many : stand.run.nodes ≡ asked.layout.now.nodes
    pub stands : StandsFor (work_in asked) plan kept stand.run.picks
    pub has_code : HasCode (work_in asked).program code
    pub is_record : IsRecord kept
    pub nodes : asked.layout.now.nodes ≡ kept.nodes
    pub walk_is : IsKept (work_in asked) plan kept walk
    pub there : (e : LastEvent) → behind ≡ Some e → StandsBehind walk e

-- a walk is along the run that is shown
abbrev pub IsAlongShown : Recorded → Walk → Type 0
IsAlongShown s w = IsAlong (work_shown s) s.plan s.kept w

-- a walk stands where the nodes are shown
pub record StandsAt (s : Recorded) (w : Walk) : Type 0 where
  pub along : IsAlongShown s w
  pub seen : List Traced
  pub walked : HasWalked w seen
  pub up_to : AreUpTo s.behind s.stand.position seen

-- the nodes are shown after the fewest events again
abbrev pub behind_none : Recorded → Recorded
behind_none s = record s { behind = None }
