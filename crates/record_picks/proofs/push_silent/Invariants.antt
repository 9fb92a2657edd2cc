use Rattle.std.proofs.Common.{◌≤◌, List}
use Rattle.std.specs.Prelude.{map}
use Rattle.one_memory.specs.Shown.{pick_of}
use Rattle.run_trace.specs.Traced.{Traced}
use Rattle.run_trace.specs.Tracing.{HasTraced, IsSame, events_to_trace}
use Rattle.record_picks.specs.Seen.{HasPickedOn}
use Rattle.record_picks.proofs.push_silent.Given as goal

abbrev pub invariant-loop-stretch : goal.invariant-loop-stretch
invariant-loop-stretch l = record {
  on : (seen : List Traced) → HasTraced l.fn.tracer seen → HasPickedOn l.tracer seen (map pick_of l.fn.picks.items) (map pick_of l.picks.items);
  most : events_to_trace l.tracer ≤ events_to_trace l.fn.tracer;
  same : IsSame l.fn.tracer l.tracer;
}

abbrev pub decreases-loop-stretch : goal.decreases-loop-stretch
decreases-loop-stretch l = events_to_trace l.tracer
