use Rattle.std.proofs.Common.{◌-◌}
use Rattle.time_machine.proofs.Moved.{IsOnWay}
use Rattle.time_machine.proofs.machine.TimeMachine.forward_to_stop.Given as goal

abbrev pub invariant-loop-made : goal.invariant-loop-made
invariant-loop-made l = IsOnWay l.fn.self.run l.stops l.fn.self.position l.to l.made l.self

abbrev pub decreases-loop-made : goal.decreases-loop-made
decreases-loop-made l = l.to - l.self.position
