use Rattle.std.proofs.Common.{◌≤◌, List}
use Rattle.check_costs.specs.elf_symbols.Symbols.{Symbol}
use Rattle.run_trace.specs.Traced.{Traced}
use Rattle.run_trace.specs.Tracing.{events_to_trace}
use Rattle.run_costs.specs.Counting.{HasCounted, HasCountedMore, IsSameRun}
use Rattle.run_costs.proofs.counting.Counting.count_silent.Given as goal

abbrev pub invariant-loop-stretch : goal.invariant-loop-stretch
invariant-loop-stretch l = record {
  on : (symbols : List Symbol) (seen : List Traced) → HasCounted symbols l.fn.self seen
      → HasCountedMore symbols l.self seen;
  most : events_to_trace l.self.tracer ≤ events_to_trace l.fn.self.tracer;
  same : IsSameRun l.fn.self l.self;
}

abbrev pub decreases-loop-stretch : goal.decreases-loop-stretch
decreases-loop-stretch l = events_to_trace l.self.tracer
