use Rattle.std.proofs.Common.{◌≤◌, ◌+◌, ◌-◌, length}
use Rattle.time_machine.specs.Checkpoints.{AreOfRun}
use Rattle.time_machine.specs.Stand.{Run}
use Rattle.time_machine.proofs.checkpoints.thin.Given as goal

abbrev pub invariant-loop-place : goal.invariant-loop-place
invariant-loop-place l = record {
  of_run : (r : Run) → AreOfRun r l.fn.kept.items → AreOfRun r l.kept.items;
  half : length l.kept.items + l.place ≤ length l.fn.kept.items;
}

abbrev pub decreases-loop-place : goal.decreases-loop-place
decreases-loop-place l = length l.kept.items - l.place
