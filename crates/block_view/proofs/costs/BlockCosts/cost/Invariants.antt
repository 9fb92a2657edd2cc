use Rattle.std.proofs.Common.{◌≡◌}
use Rattle.block_view.specs.Counts.{messages_in}
use Rattle.block_view.specs.Kept.{counts_at}
use Rattle.block_view.proofs.costs.BlockCosts.cost.Given as goal

-- the messages of the nodes so far
abbrev pub invariant-loop-node : goal.invariant-loop-node
invariant-loop-node l = l.cost ≡ messages_in (counts_at l.self.nodes.items) l.node
