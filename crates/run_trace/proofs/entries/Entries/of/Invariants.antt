use Rattle.std.proofs.Common.{◌≤◌, drop, length}
use Rattle.run_trace.specs.Entries.{AreEntriesOf}
use Rattle.run_trace.proofs.entries.Entries.of.Given as goal

abbrev pub invariant-loop-k : goal.invariant-loop-k
invariant-loop-k l = record {
  are : AreEntriesOf (drop l.k l.plan) l.entries;
  within : l.k ≤ length l.plan;
}

abbrev pub decreases-loop-k : goal.decreases-loop-k
decreases-loop-k l = l.k
