use Rattle.std.proofs.Common.{◌≡◌}
use Rattle.one_memory.specs.Machine.{state_of}
use Rattle.one_memory.specs.ByOrder.{ends_by}
use Rattle.one_memory.proofs.by_order.OriginalRun.ends.Given as goal

abbrev pub invariant-loop-p : goal.invariant-loop-p
invariant-loop-p l = l.ends.items ≡ ends_by l.self.budget (state_of l.self.machine) l.p
