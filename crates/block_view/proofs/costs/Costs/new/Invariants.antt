use Rattle.block_view.proofs.Costing.{AreNone}
use Rattle.block_view.proofs.costs.Costs.new.Given as goal

-- so many blocks that have cost nothing
abbrev pub invariant-loop : goal.invariant-loop
invariant-loop l = AreNone l.costs.items l.counter
