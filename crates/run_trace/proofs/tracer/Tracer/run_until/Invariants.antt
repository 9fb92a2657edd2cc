use Rattle.std.proofs.Common.{◌≤◌, List}
use Rattle.run_trace.specs.Traced.{Traced}
use Rattle.run_trace.specs.Tracing.{HasTraced, IsSame, events_to_trace}
use Rattle.run_trace.proofs.Passes.{IsOn}
use Rattle.run_trace.proofs.tracer.Tracer.run_until.Given as goal

abbrev pub invariant-loop-stretch : goal.invariant-loop-stretch
invariant-loop-stretch l = record {
  on : (seen : List Traced) → HasTraced l.fn.self seen → IsOn l.until l.self seen;
  most : events_to_trace l.self ≤ events_to_trace l.fn.self;
  same : IsSame l.fn.self l.self;
}

abbrev pub decreases-loop-stretch : goal.decreases-loop-stretch
decreases-loop-stretch l = events_to_trace l.self
