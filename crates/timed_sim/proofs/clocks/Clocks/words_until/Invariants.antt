use Rattle.std.proofs.Common.{◌≡◌, ℕ, ◌<◌, ◌≤◌, length}
use Rattle.std.specs.Prelude.{slice_index_or}
use Rattle.dsm_core.specs.CoreParts.{work_of, core_of}
use Rattle.timed_sim.specs.Stored.{times_of}
use Rattle.timed_sim.specs.Stretches.{words_until}
use Rattle.timed_sim.proofs.clocks.Clocks.words_until.Given as goal

abbrev pub invariant-loop-node : goal.invariant-loop-node
invariant-loop-node l = record {
  len : length l.words ≡ 16;
  words : (i : ℕ) → i < l.node → slice_index_or l.words i 0 ≡ words_until (work_of l.core)
      (times_of l.core.layout.nodes l.self) (core_of l.core) l.end i;
  few : (i : ℕ) → i < l.node → slice_index_or l.words i 0 ≤ 4096;
}
