use Rattle.std.proofs.Common.{◌≡◌, ◌≤◌, ◌<◌, List}
use Rattle.check_costs.specs.elf_symbols.Symbols.{Symbol}
use Rattle.run_trace.specs.replay.Way.{IsStretch}
use Rattle.run_trace.specs.Traced.{Traced}
use Rattle.run_trace.specs.Tracing.{events_to_trace, replayer_in}
use Rattle.run_costs.specs.Counting.{HasCounted, HasCountedMore, IsSameRun}
use Rattle.run_costs.proofs.counting.Counting.count_stretch.Given as goal

abbrev pub invariant-loop-stretch : goal.invariant-loop-stretch
invariant-loop-stretch l = record {
  on : (symbols : List Symbol) (seen : List Traced) → HasCounted symbols l.fn.self seen
      → HasCountedMore symbols l.self seen;
  stretch : IsStretch (replayer_in l.self.tracer) l.stretch;
  fewer : l.stretch.words ≡ 0 → events_to_trace l.self.tracer < events_to_trace l.fn.self.tracer;
  most : events_to_trace l.self.tracer ≤ events_to_trace l.fn.self.tracer;
  same : IsSameRun l.fn.self l.self;
}

abbrev pub decreases-loop-stretch : goal.decreases-loop-stretch
decreases-loop-stretch l = l.stretch.words
