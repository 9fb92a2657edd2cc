use Rattle.run_trace.specs.Tracing.{events_to_trace}
use Rattle.views.proofs.Summed.{IsSummed}
use Rattle.views.proofs.blocks.sums_of.Given as goal

abbrev pub invariant-loop-word : goal.invariant-loop-word
invariant-loop-word l = IsSummed l.fn.tracer l.tracer l.layout l.sums

abbrev pub decreases-loop-word : goal.decreases-loop-word
decreases-loop-word l = events_to_trace l.tracer
