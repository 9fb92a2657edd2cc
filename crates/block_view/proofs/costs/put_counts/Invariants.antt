use Rattle.block_view.proofs.Costing.{IsGrown}
use Rattle.block_view.proofs.costs.put_counts.Given as goal

-- what was counted stays, and there are as many as were counted off
abbrev pub invariant-loop : goal.invariant-loop
invariant-loop l = IsGrown l.initial.counts.items l.counter l.counts.items
