use Rattle.std.proofs.Common.{◌≡◌, ◌+◌, ◌-◌, ◌*◌, ◌/◌, ◌≤◌, length}
use Rattle.one_memory.specs.Machine.{AreOps}
use Rattle.one_memory.proofs.code.CodeRegion.read.Given as goal

abbrev pub invariant-loop-ops : goal.invariant-loop-ops
invariant-loop-ops l = record {
  ops : AreOps l.program (l.address / 4) l.ops.items;
  at : l.end ≡ l.address + 4 * length l.ops.items;
  low : l.end + 4 ≤ 2147418112;
}

abbrev pub decreases-loop-ops : goal.decreases-loop-ops
decreases-loop-ops l = 2147418112 - l.end
