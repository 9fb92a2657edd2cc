use Rattle.std.proofs.Common.{◌<◌, ◌≤◌, ◌+◌, List}
use Rattle.event_text.specs.replay.Way.{IsStretch}
use Rattle.event_text.specs.run_trace.Traced.{Traced}
use Rattle.event_text.specs.run_trace.Tracing.{events_to_trace, replayer_in}
use Rattle.recorded_run.specs.Walks.{HasCounted, HasCountedOn, StaysAlong, tracer_of}
use Rattle.recorded_run.proofs.walk.Walk.make_stretch.Given as goal

abbrev pub invariant-loop-stretch : goal.invariant-loop-stretch
invariant-loop-stretch l = record {
  on : (seen : List Traced) → HasCounted l.fn.self seen → HasCountedOn l.self seen;
  stretch : IsStretch (replayer_in (tracer_of l.self)) l.stretch;
  below : l.self.picks < l.most;
  few : l.stretch.words ≤ l.initial.stretch.words;
  fewer : events_to_trace (tracer_of l.self) + l.initial.stretch.words ≤ events_to_trace (tracer_of l.fn.self) + l.stretch.words;
  same : StaysAlong l.fn.self l.self;
}

abbrev pub decreases-loop-stretch : goal.decreases-loop-stretch
decreases-loop-stretch l = l.stretch.words
