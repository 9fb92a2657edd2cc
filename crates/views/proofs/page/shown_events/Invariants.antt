use Rattle.run_trace.specs.Tracing.{events_to_trace}
use Rattle.views.proofs.Pages.{IsGathered}
use Rattle.views.proofs.page.shown_events.Given as goal

abbrev pub invariant-loop-events : goal.invariant-loop-events
invariant-loop-events l = IsGathered l.options l.fn.tracer l.tracer l.events

abbrev pub decreases-loop-events : goal.decreases-loop-events
decreases-loop-events l = events_to_trace l.tracer
