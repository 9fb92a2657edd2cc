use Rattle.std.proofs.Common.{◌≡◌, ◌-◌, ◌≤◌, None}
use Rattle.one_memory.specs.Turns.{Turns}
use Rattle.one_memory.proofs.processor.Processor.run.Given as goal

abbrev pub invariant-loop-left : goal.invariant-loop-left
invariant-loop-left l = record {
  turns : Turns l.p (l.most - l.left) l.initial.memory l.initial.self l.memory l.self;
  exit : l.self.exit ≡ None;
  few : l.left ≤ l.most;
  program : l.memory.program ≡ l.initial.memory.program;
  layout : l.memory.layout ≡ l.initial.memory.layout;
}

abbrev pub decreases-loop-left : goal.decreases-loop-left
decreases-loop-left l = l.left
