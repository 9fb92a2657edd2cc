-- What is traced so far goes on to the trace of the whole run.
use Rattle.std.proofs.Common.{◌≡◌, List, ◌++◌, map, sym, ap, ◌∙◌}
use Rattle.templates.specs.declared.plans.PlanEntry.{PlanEntry}
use Rattle.replay.specs.node_model.Node.{Work}
use Rattle.replay.specs.node_model.Core.{opening_core, after}
use Rattle.replay.specs.run_record.declared.Record.{Record}
use Rattle.replay.specs.Told.{Told, AreToldBy, what_told, events_told}
use Rattle.run_trace.specs.declared.tracer.Tracer.{Tracer}
use Rattle.run_trace.specs.Traced.{Traced}
use Rattle.run_trace.specs.Trace.{IsTraceSoFar, IsTraceOf, trace_from, trace_of}
use Rattle.run_trace.specs.Tracing.{HasTraced, plan_traced, record_traced, work_traced}
use Rattle.run_trace.proofs.Tracings.{trace_more, what_append}

-- a record tells of one list of events
abbrev pub HasOne : Record → Type 0
HasOne r = (told other : List Told) → AreToldBy r told → AreToldBy r other → told ≡ other

pub so_far : (t : Tracer) (seen : List Traced) → HasTraced t seen
    → IsTraceSoFar (work_traced t) (plan_traced t) (record_traced t) seen
so_far t seen h = record {
  before = h.before;
  rest = h.made.way.rest;
  are_told = h.made.way.are_told;
  made = h.made.way.made;
  trace_is = h.seen_is;
}

pub goes_on : (work : Work) (plan : List PlanEntry) (r : Record) (seen trace : List Traced)
    → HasOne r → IsTraceSoFar work plan r seen → IsTraceOf work plan r trace
    → (more : List Traced) × (trace ≡ seen ++ more)
goes_on work plan r seen trace one h whole =
    let o = opening_core work in
    let more = trace_from work plan (after work o (events_told h.before)) (map what_told h.rest) in
    let same : whole.told ≡ h.before ++ h.rest =
    one whole.told (h.before ++ h.rest) whole.whole.are_told h.are_told in (
      more,
      whole.trace_is ∙ ap (trace_of work plan) same
          ∙ ap (trace_from work plan o) (what_append h.before h.rest)
          ∙ trace_more work plan o (map what_told h.before) (map what_told h.rest)
          ∙ ap (λ l. l ++ more) (sym h.trace_is),
    )
