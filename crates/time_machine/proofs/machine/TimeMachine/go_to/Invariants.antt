use Rattle.std.proofs.Common.{◌≡◌, ◌≤◌, ◌-◌}
use Rattle.time_machine.proofs.machine.TimeMachine.go_to.Given as goal

abbrev pub invariant-loop-self : goal.invariant-loop-self
invariant-loop-self l = record {
  run : l.self.run ≡ l.fn.self.run;
  within : l.self.position ≤ l.position;
}

abbrev pub decreases-loop-self : goal.decreases-loop-self
decreases-loop-self l = l.position - l.self.position
