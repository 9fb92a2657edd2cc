use Rattle.std.proofs.Common.{◌≡◌, ℕ, ◌<◌, ◌≤◌, length}
use Rattle.std.specs.Prelude.{slice_index_or}
use Rattle.timed_sim.specs.Clock.{nothing_spent}
use Rattle.timed_sim.specs.Stretches.{more_words}
use Rattle.timed_sim.proofs.clocks.Clocks.count_words.Given as goal

abbrev pub invariant-loop-node : goal.invariant-loop-node
invariant-loop-node l = record {
  len : length l.self.spent.items ≡ length l.fn.self.spent.items;
  needs : l.self.needs ≡ l.fn.self.needs;
  links : l.self.links ≡ l.fn.self.links;
  counted : (i : ℕ) → i < l.node → slice_index_or l.self.spent.items i nothing_spent
      ≡ more_words (slice_index_or l.words i 0) (slice_index_or l.fn.self.spent.items i nothing_spent);
  rest : (i : ℕ) → l.node ≤ i → slice_index_or l.self.spent.items i nothing_spent
      ≡ slice_index_or l.fn.self.spent.items i nothing_spent;
}
