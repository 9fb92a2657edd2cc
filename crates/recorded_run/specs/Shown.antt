-- A recorded run that is shown: the run on one memory that it stands for, at a position, and the
-- nodes there.
use Rattle.std.specs.Prelude.{◌≡◌, ℕ, ◌<◌, List, ◌∷◌, [], length, take, map, Option, Some, None}
use Rattle.templates.specs.declared.plans.PlanEntry.{PlanEntry}
use Rattle.event_text.specs.node_machine.jump_map.Image.{Cell, IsRewriting}
use Rattle.event_text.specs.run_trace.node_model.Node.{Work}
use Rattle.event_text.specs.run_trace.node_model.Core.{Core, AreAlike, opening_core, after}
use Rattle.event_text.specs.replay.dsm_core.CoreParts.{work_with}
use Rattle.event_text.specs.replay.run_record.declared.Record.{Record}
use Rattle.event_text.specs.replay.Told.{events_told}
use Rattle.event_text.specs.replay.rewriting_law.Bounds.{RunsRewritten}
use Rattle.event_text.specs.run_trace.Trace.{IsTraceSoFar}
use Rattle.event_text.specs.run_trace.Traced.{Traced}
use Rattle.record_picks.specs.Picks.{ArePicksOf}
use Rattle.record_picks.specs.Seen.{all_seen}
use Rattle.debugged_run.specs.Seen.{seen_from}
use Rattle.debugged_run.specs.gdb_session.Views.{View}
use Rattle.debugged_run.specs.time_machine.Stand.{Stand}
use Rattle.debugged_run.specs.one_memory.declared.Pick.{Pick}
use Rattle.debugged_run.specs.one_memory.Shown.{pick_of}
use Rattle.recorded_run.specs.declared.walk.LastEvent.{LastEvent}

-- a position in the run on one memory; the rewritten code that the nodes run, and how much of it;
-- the record of their run; and the event after which they are shown, if one was named
pub record Recorded : Type 0 where
  pub stand : Stand
  pub image : List Cell
  pub budget : ℕ
  pub plan : List PlanEntry
  pub kept : Record
  pub behind : Option LastEvent

-- what the nodes run
abbrev pub work_shown : Recorded → Work
work_shown s = work_with s.stand.run.program s.image s.stand.run.layout s.budget

-- the debugger sees the run on one memory
abbrev pub shown_from : Recorded → View
shown_from s = seen_from s.stand

-- the record of a run of rewritten code tells of a whole run, which stands for these picks
pub record StandsFor (work : Work) (plan : List PlanEntry) (r : Record) (picks : List Pick) : Type 0
  where
    pub runs : RunsRewritten work
    pub rewriting : IsRewriting work.program plan work.image
    pub are : ArePicksOf work plan r (map pick_of picks)

-- This is the trace of the first events that the record tells of, and these are the nodes and lists
-- after them.
pub record AreFirst (work : Work) (plan : List PlanEntry) (r : Record) (seen : List Traced)
    (c : Core) : Type 0
  where
    pub so_far : IsTraceSoFar work plan r seen
    pub alike : AreAlike work.layout.nodes c
        (after work (opening_core work) (events_told so_far.before))

-- how many picks of the run on one memory the events make
abbrev pub picks_made : List Traced → ℕ
picks_made seen = length (all_seen seen)

-- the events make so many picks, and no fewer of them do
pub record AreFewest (k : ℕ) (seen : List Traced) : Type 0 where
  pub makes : picks_made seen ≡ k
  pub fewest : (m : ℕ) → m < length seen → picks_made (take m seen) < k

-- the last of the events
abbrev pub name_of : Traced → LastEvent
name_of x = record { stamp = x.stamp; node = x.node }

abbrev pub last_or : Option LastEvent → List Traced → Option LastEvent
last_or last [] = last
last_or last (x ∷ xs) = last_or (Some (name_of x)) xs

abbrev pub last_of : List Traced → Option LastEvent
last_of seen = last_or None seen

-- the nodes are shown after the event that was named, or after the fewest that make the picks up
-- to the position
abbrev pub AreUpTo : Option LastEvent → (position : ℕ) → List Traced → Type 0
AreUpTo None k seen = AreFewest k seen
AreUpTo (Some e) k seen = last_of seen ≡ Some e

-- the nodes that are shown, and the events after which they stand
pub record AreShown (s : Recorded) (seen : List Traced) (c : Core) : Type 0 where
  pub first : AreFirst (work_shown s) s.plan s.kept seen c
  pub up_to : AreUpTo s.behind s.stand.position seen
