use Rattle.run_trace.specs.Tracing.{events_to_trace}
use Rattle.views.proofs.Lines.{IsUnderWay}
use Rattle.views.proofs.trace.put_events.Given as goal

abbrev pub invariant-loop-lines : goal.invariant-loop-lines
invariant-loop-lines g l = IsUnderWay l.program l.options l.fn.tracer l.tracer (g.O.Sink.state l.fn.out)
    (g.O.Sink.state l.out) l.lines.items

abbrev pub decreases-loop-lines : goal.decreases-loop-lines
decreases-loop-lines g l = events_to_trace l.tracer
