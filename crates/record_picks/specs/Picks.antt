-- The picks that a recorded run stands for.
use Rattle.std.specs.Prelude.{◌≡◌, List}
use Rattle.rv32_step.specs.OneMemory.{Pick, IsRun, opening}
use Rattle.templates.specs.declared.plans.PlanEntry.{PlanEntry}
use Rattle.run_trace.specs.node_model.Node.{Work}
use Rattle.run_trace.specs.node_model.Core.{opening_core}
use Rattle.run_trace.specs.replay.Replay.{TellsWholeRun}
use Rattle.run_trace.specs.replay.Told.{Told, events_told}
use Rattle.run_trace.specs.replay.run_record.declared.Record.{Record}
use Rattle.run_trace.specs.replay.rewriting_law.CoreRun.{picks_of}
use Rattle.run_trace.specs.replay.rewriting_law.Interleaving.{original_by_node}

-- the record tells of a whole run, which has these picks
pub record ArePicksOf (work : Work) (plan : List PlanEntry) (r : Record) (picks : List Pick) : Type 0
  where
    pub told : List Told
    pub whole : TellsWholeRun work r told
    pub picks_are : picks ≡ picks_of work plan (opening_core work) (events_told told)

-- they are an interleaved run of the original from its start, with a processor for each node
abbrev pub IsInterleaved : Work → List Pick → Type 0
IsInterleaved work picks = IsRun (original_by_node work) (opening (original_by_node work)) picks
