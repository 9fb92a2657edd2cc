use Rattle.std.proofs.Common.{◌+◌, subst, sym}
use Rattle.block_view.proofs.Costing.{AreNone, none_more}
use Rattle.block_view.proofs.costs.Costs.new.Goals as goal

pub loop-preserved : goal.loop-preserved
loop-preserved c =
    subst (λ xs. AreNone xs (c.loop.counter + 1)) (sym c.in_ok-push.ensures.items)
    (none_more c.loop.costs.items c.loop.counter c.new.result c.loop.invariant c.new.ensures)
