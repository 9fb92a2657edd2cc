use Rattle.recorded_run.specs.Walks.{tracer_of}
use Rattle.recorded_run.proofs.Along.{IsSeeking}
use Rattle.event_text.specs.run_trace.Tracing.{events_to_trace}
use Rattle.recorded_run.proofs.walk.Walk.go_to_miss.Given as goal

abbrev pub invariant-loop-event : goal.invariant-loop-event
invariant-loop-event l = IsSeeking l.fn.self l.picks l.self

abbrev pub decreases-loop-event : goal.decreases-loop-event
decreases-loop-event l = events_to_trace (tracer_of l.self)
