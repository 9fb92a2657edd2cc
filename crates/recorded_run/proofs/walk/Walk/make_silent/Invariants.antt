use Rattle.std.proofs.Common.{◌≤◌, List}
use Rattle.event_text.specs.run_trace.Traced.{Traced}
use Rattle.event_text.specs.run_trace.Tracing.{events_to_trace}
use Rattle.recorded_run.specs.Walks.{HasCounted, HasCountedOn, StaysAlong, tracer_of}
use Rattle.recorded_run.proofs.walk.Walk.make_silent.Given as goal

abbrev pub invariant-loop-self : goal.invariant-loop-self
invariant-loop-self l = record {
  on : (seen : List Traced) → HasCounted l.fn.self seen → HasCountedOn l.self seen;
  few : l.self.picks ≤ l.most;
  left : events_to_trace (tracer_of l.self) ≤ events_to_trace (tracer_of l.fn.self);
  same : StaysAlong l.fn.self l.self;
}

abbrev pub decreases-loop-self : goal.decreases-loop-self
decreases-loop-self l = events_to_trace (tracer_of l.self)
