use Rattle.std.proofs.Common.{◌≡◌, ℕ, ◌<◌, length}
use Rattle.std.specs.Vec.{vec_capacity}
use Rattle.shared_sim.specs.Listing.{HasRowRoom}
use Rattle.shared_sim.proofs.listing.empty_rows.Given as goal

abbrev pub invariant-loop-node : goal.invariant-loop-node
invariant-loop-node l = record {
  len : length l.rows.items ≡ l._node;
  room : vec_capacity l.rows ≡ l.count;
  rows : (i : ℕ) → i < l._node → HasRowRoom l.count l.rows.items i;
}
