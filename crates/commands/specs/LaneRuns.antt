-- When events are a whole run of an executable's rewritten code on nodes of several processors.
use Rattle.std.specs.Prelude.{◌≡◌, ℕ, List, ◌++◌, Some, map}
use Rattle.elf32_read.specs.Elf.{Elf}
use Rattle.templates.specs.declared.plans.PlanEntry.{PlanEntry}
use Rattle.node_model.specs.Outcome.{Outcome}
use Rattle.lane_model.specs.Nodes.{LaneWork}
use Rattle.lane_model.specs.Core.{LaneEvent, IsLaneRun, opening_core, after}
use Rattle.lane_model.specs.Outcome.{ends_after, counts_after}
use Rattle.lane_law.specs.Law.{RunsOnLanes, Interleaves, AllLicensed, IsCoherent, SameReservations, StopsAtBudget, AreAllOver, AreEmpty, original_after}
use Rattle.judged_files.specs.Inputs.{Inputs}
use Rattle.prepared_run.specs.Ready.{IsAskedWork}

-- the events are a whole run of the nodes, from the start until each is over, with this outcome
pub record IsWholeLaneRun (w : LaneWork) (plan : List PlanEntry) (events : List LaneEvent)
    (o : Outcome) : Type 0 where
  pub run : IsLaneRun w (opening_core w) events
  pub over : AreAllOver w (after w (opening_core w) events)
  pub ends : ends_after w events ≡ map (λ e. Some e) o.ends
  pub counts : o.counts ≡ counts_after w events
  -- by the words that commit, it is a run of as many original processors on one memory: with the
  -- same values read, the same bytes printed, and the same exits
  pub original : Interleaves w plan events
  pub output : o.output ≡ (original_after w plan events).output
  -- each word that commits makes a licensed access, and at every moment the nodes' copies are
  -- coherent with that memory, and the processors have the same addresses reserved there
  pub licensed : AllLicensed w plan (opening_core w) events
  pub coherent : (before behind : List LaneEvent) → before ++ behind ≡ events
      → IsCoherent w (after w (opening_core w) before) (original_after w plan before).shared
  pub reservations : (before behind : List LaneEvent) → before ++ behind ≡ events
      → SameReservations w (after w (opening_core w) before) (original_after w plan before)
  -- a processor is stopped only where it has executed the whole budget
  pub stopped : StopsAtBudget w (after w (opening_core w) events)
  -- at the end no list holds a message
  pub empty : AreEmpty w (after w (opening_core w) events)

-- The outcome of a run of the executable's rewritten code, as the inputs ask for it, on nodes of so
-- many processors each.
pub record IsLaneRunOf (inputs : Inputs) (nodes lanes budget : ℕ) (w : LaneWork)
    (events : List LaneEvent) (outcome : Outcome) : Type 0 where
  pub elf : Elf
  pub plan : List PlanEntry
  pub asked : IsAskedWork inputs nodes budget elf plan w.work
  pub lanes_are : w.lanes ≡ lanes
  pub runs : RunsOnLanes w plan
  pub whole : IsWholeLaneRun w plan events outcome
