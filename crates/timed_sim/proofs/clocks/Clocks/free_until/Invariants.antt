use Rattle.std.proofs.Common.{ℕ, ◌<◌}
use Rattle.dsm_core.specs.CoreParts.{work_of, core_of}
use Rattle.timed_sim.specs.Stored.{times_of}
use Rattle.timed_sim.specs.Stretches.{IsFree}
use Rattle.timed_sim.proofs.clocks.Clocks.free_until.Given as goal

abbrev pub invariant-loop-node : goal.invariant-loop-node
invariant-loop-node l = record {
  free : (i : ℕ) → i < l.node → IsFree (work_of l.core)
      (times_of l.core.layout.nodes l.self) (core_of l.core) l.end i;
}
