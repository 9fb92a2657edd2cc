use Rattle.std.proofs.Common.{◌+◌, subst, sym}
use Rattle.block_view.proofs.Writing.{AreUnwritten, unwritten_more}
use Rattle.block_view.proofs.sharing.Sharing.new.Goals as goal

pub loop-preserved : goal.loop-preserved
loop-preserved c =
    subst (λ xs. AreUnwritten xs (c.loop.counter + 1)) (sym c.in_ok-push.ensures.items)
    (unwritten_more c.loop.writers.items c.loop.counter c.new.result c.loop.invariant c.new.ensures)
