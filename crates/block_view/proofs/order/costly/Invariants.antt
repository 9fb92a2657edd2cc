use Rattle.std.proofs.Common.{◌≡◌, List}
use Rattle.event_text.specs.run_trace.Traced.{Traced}
use Rattle.block_view.specs.Counts.{block_counts, misses_of}
use Rattle.block_view.specs.Kept.{AreCostsOf}
use Rattle.block_view.specs.Order.{costly, AreUpTo}
use Rattle.block_view.proofs.order.costly.Given as goal

-- those of the blocks so far, ascending
abbrev pub invariant-loop-block : goal.invariant-loop-block
invariant-loop-block l = record {
  value : (seen : List Traced)
      → AreCostsOf l.costs.blocks.items (λ b i. block_counts b i seen) (λ b. misses_of b seen)
      → l.ranked.items ≡ costly l.nodes l.block seen;
  up_to : AreUpTo l.ranked.items l.block;
}
