use Rattle.std.proofs.Common.{◌≡◌, ℕ, ◌≤◌, [], length}
use Rattle.std.specs.Vec.{vec_capacity}
use Rattle.std.specs.Prelude.{slice_index_or}
use Rattle.timed_sim.proofs.links.new_links.Given as goal

abbrev pub invariant-loop-pair : goal.invariant-loop-pair
invariant-loop-pair l = record {
  len : length l.links.items ≡ l._pair;
  room : l.pairs ≤ vec_capacity l.links;
  none : (k : ℕ) → slice_index_or l.links.items k [] ≡ [];
}
