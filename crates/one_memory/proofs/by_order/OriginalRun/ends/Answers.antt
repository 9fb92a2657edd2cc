use Rattle.one_memory.specs.Machine.{state_of}
use Rattle.one_memory.proofs.OrderLemmas.{one_end}
use Rattle.one_memory.proofs.by_order.OriginalRun.ends.Goals as goal

pub loop-p-preserved : goal.loop-p-preserved
loop-p-preserved c =
    one_end c.args.self.now.budget (state_of c.args.self.now.machine) _ _ c.loop-p.p _ _ c.loop-p.invariant c.exit.ensures c.end_of.ensures c.in_ok-push.ensures.items
