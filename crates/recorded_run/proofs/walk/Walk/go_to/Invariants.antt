use Rattle.recorded_run.specs.Walks.{tracer_of}
use Rattle.recorded_run.proofs.Along.{IsComing}
use Rattle.event_text.specs.run_trace.Tracing.{events_to_trace}
use Rattle.recorded_run.proofs.walk.Walk.go_to.Given as goal

abbrev pub invariant-loop-self : goal.invariant-loop-self
invariant-loop-self l = IsComing l.fn.self l.picks l.position l.self

abbrev pub decreases-loop-self : goal.decreases-loop-self
decreases-loop-self l = events_to_trace (tracer_of l.self)
