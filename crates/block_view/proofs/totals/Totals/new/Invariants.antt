use Rattle.node_model.specs.Node.{no_counts}
use Rattle.block_view.specs.Kept.{AreTotals}
use Rattle.block_view.proofs.totals.Totals.new.Given as goal

-- so many nodes that have counted nothing
abbrev pub invariant-loop : goal.invariant-loop
invariant-loop l = AreTotals l.counter l.counts.items (λ i. no_counts)
