-- Helps the code alone: what a run is asked to be, and the
-- files that a command names.
use Rattle.std.specs.Prelude.{List, ℕ}
use Rattle.templates.specs.declared.plans.PlanEntry.{PlanEntry}
use Rattle.jump_map.specs.Image.{IsRewriting}
use Rattle.node_model.specs.Node.{Work}
use Rattle.node_model.specs.Outcome.{Outcome}
use Rattle.lane_model.specs.Nodes.{LaneWork}
use Rattle.lane_model.specs.Core.{LaneEvent, opening_core}
use Rattle.lane_law.specs.Law.{RunsOnLanes}
use Rattle.smp_sim.specs.CoreParts.{work_with}
use Rattle.smp_sim.specs.ByOrder.{FollowsOrder}
use Rattle.shared_sim.specs.ByOrder.{IsOutcomeByOrder}
use Rattle.lossy_sim.specs.WithLoss.{IsOutcomeWithLoss}
use Rattle.command_line.specs.declared.Machine.{Machine}
use Rattle.command_line.specs.declared.Machine.TheVariants.{Plain, Lossy, Lanes}
use Rattle.commands.specs.LaneRuns.{IsWholeLaneRun}
use Rattle.command_line.specs.Meaning.{file_name}
use Rattle.commands.specs.Inputs.{FileNames}
use Rattle.commands.specs.declared.input.FileNames.{FileNames as OfCode}

-- the files that a command of the code reads
abbrev pub names_of : OfCode → FileNames
names_of names = record {
  executable = file_name names.executable;
  code = file_name names.code;
  verified = file_name names.verified;
  layout = file_name names.layout;
  text = file_name names.text;
  batches = names.batches;
}

-- the outcome of nodes of several processors by the order of a number, whatever the plan by which
-- their code was rewritten
pub record IsOutcomeOnLanes (w : LaneWork) (order : ℕ) (o : Outcome) : Type 0 where
  pub events : List LaneEvent
  pub ordered : FollowsOrder w order (opening_core w) events
  pub runs : (plan : List PlanEntry) → IsRewriting w.work.program plan w.work.image
      → RunsOnLanes w plan
  pub whole : (plan : List PlanEntry) → RunsOnLanes w plan → IsWholeLaneRun w plan events o

-- the outcome by the order of a number, on such a machine
abbrev pub IsOutcomeOn : Machine → Work → (order : ℕ) → Outcome → Type 0
IsOutcomeOn Plain work order o = IsOutcomeByOrder work order o
IsOutcomeOn (Lossy loss) work order o = IsOutcomeWithLoss work order loss o
IsOutcomeOn (Lanes lanes) work order o = IsOutcomeOnLanes (work_with work lanes) order o
