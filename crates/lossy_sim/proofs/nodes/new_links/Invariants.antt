use Rattle.std.proofs.Common.{◌≡◌, ℕ, ◌≤◌, length}
use Rattle.std.specs.Vec.{vec_capacity}
use Rattle.std.specs.Prelude.{slice_index_or}
use Rattle.lossy_sim.specs.Links.{new_link}
use Rattle.lossy_sim.proofs.nodes.new_links.Given as goal

abbrev pub invariant-loop-pair : goal.invariant-loop-pair
invariant-loop-pair l = record {
  len : length l.links.items ≡ l._pair;
  room : l.pairs ≤ vec_capacity l.links;
  new : (k : ℕ) → slice_index_or l.links.items k new_link ≡ new_link;
}
