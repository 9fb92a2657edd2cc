use Rattle.std.proofs.Common.{◌≤◌, ◌+◌, List}
use Rattle.replay.specs.Way.{IsStretch}
use Rattle.run_trace.specs.Traced.{Traced}
use Rattle.run_trace.specs.Tracing.{HasTraced, IsSame, events_to_trace}
use Rattle.run_trace.proofs.Passes.{IsOn}
use Rattle.run_trace.proofs.tracer.Tracer.run_ahead.Given as goal

abbrev pub invariant-loop-stretch : goal.invariant-loop-stretch
invariant-loop-stretch l = record {
  on : (seen : List Traced) → HasTraced l.fn.self seen → IsOn l.until l.self seen;
  stretch : IsStretch l.self.replayer l.stretch;
  few : l.stretch.words ≤ l.initial.stretch.words;
  fewer : events_to_trace l.self + l.initial.stretch.words ≤ events_to_trace l.fn.self + l.stretch.words;
  same : IsSame l.fn.self l.self;
}

abbrev pub decreases-loop-stretch : goal.decreases-loop-stretch
decreases-loop-stretch l = l.stretch.words
