use Rattle.std.proofs.Common.{◌≤◌, length}
use Rattle.time_machine.specs.Checkpoints.{AreBehind}
use Rattle.time_machine.proofs.checkpoints.Checkpoints.nearest.Given as goal

abbrev pub invariant-loop-place : goal.invariant-loop-place
invariant-loop-place l = record {
  within : l.place ≤ length l.self-inside.kept.items;
  behind : AreBehind l.self-inside.kept.items l.place l.position;
}

abbrev pub decreases-loop-place : goal.decreases-loop-place
decreases-loop-place l = l.place
