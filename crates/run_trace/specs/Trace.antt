-- The trace of a recorded run.
use Rattle.std.specs.Prelude.{◌≡◌, List, [], ◌∷◌, ◌++◌, map, option_to_list}
use Rattle.templates.specs.declared.plans.PlanEntry.{PlanEntry}
use Rattle.replay.specs.node_model.Node.{Work}
use Rattle.replay.specs.node_model.Core.{Core, event_step, opening_core}
use Rattle.replay.specs.run_order.OwnRun.{Stamped}
use Rattle.replay.specs.run_record.declared.Record.{Record}
use Rattle.replay.specs.Told.{Told, what_told, AreToldBy, AreMadeAs}
use Rattle.replay.specs.Replay.{TellsWholeRun}
use Rattle.run_trace.specs.Traced.{Traced, traced_at}

-- what events do, one after another, from a core on
abbrev pub trace_from : Work → List PlanEntry → Core → List Stamped → List Traced
trace_from work plan c [] = []
trace_from work plan c (x ∷ xs) =
    option_to_list (traced_at work plan c x)
    ++ trace_from work plan (event_step work c x.event) xs

-- what events do from the start on
abbrev pub trace_of : Work → List PlanEntry → List Told → List Traced
trace_of work plan told = trace_from work plan (opening_core work) (map what_told told)

-- this is the trace of the first events that the record tells of, made as they are told of
pub record IsTraceSoFar (work : Work) (plan : List PlanEntry) (r : Record) (trace : List Traced)
    : Type 0
  where
    pub before : List Told
    pub rest : List Told
    pub are_told : AreToldBy r (before ++ rest)
    pub made : AreMadeAs work (opening_core work) (map what_told before)
    pub trace_is : trace ≡ trace_of work plan before

-- this is the trace of the whole run that the record tells of
pub record IsTraceOf (work : Work) (plan : List PlanEntry) (r : Record) (trace : List Traced)
    : Type 0
  where
    pub told : List Told
    pub whole : TellsWholeRun work r told
    pub trace_is : trace ≡ trace_of work plan told
