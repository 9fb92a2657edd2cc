use Rattle.std.proofs.Common.{◌≡◌}
use Rattle.one_memory.specs.Machine.{original_of}
use Rattle.one_memory.specs.Running.{IsRunning, steps_of}
use Rattle.one_memory.proofs.OrderLemmas.{steps_left, Leads}
use Rattle.one_memory.proofs.by_order.OriginalRun.execute.Given as goal

abbrev pub invariant-loop-order : goal.invariant-loop-order
invariant-loop-order l = record {
  running : IsRunning l.self;
  nodes : l.self.nodes ≡ l.initial.self.nodes;
  budget : l.self.budget ≡ l.initial.self.budget;
  original : original_of l.self.machine ≡ original_of l.initial.self.machine;
  so_far : Leads l.initial.self l.initial.order l.self l.order;
}

abbrev pub decreases-loop-order : goal.decreases-loop-order
decreases-loop-order l = steps_left (original_of l.self.machine).nodes l.self.budget (steps_of l.self)
