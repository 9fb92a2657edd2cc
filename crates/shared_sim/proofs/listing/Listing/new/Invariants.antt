use Rattle.std.proofs.Common.{ℕ, ◌<◌}
use Rattle.shared_sim.specs.Listing.{HasShape, Tells}
use Rattle.shared_sim.proofs.listing.Listing.new.Given as goal

abbrev pub invariant-loop-node : goal.invariant-loop-node
invariant-loop-node l = record {
  shape : HasShape l.core.layout.nodes l.listing;
  told : (i : ℕ) → i < l.node → Tells l.core l.listing i;
}
