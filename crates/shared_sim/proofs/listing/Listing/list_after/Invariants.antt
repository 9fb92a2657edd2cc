use Rattle.std.proofs.Common.{◌≡◌, ◌≢◌, ℕ, ◌<◌, []}
use Rattle.dsm_core.specs.CoreParts.{core_of}
use Rattle.shared_sim.specs.Listing.{HasShape, Tells}
use Rattle.shared_sim.proofs.listing.Listing.list_after.Given as goal

abbrev pub invariant-loop-other : goal.invariant-loop-other
invariant-loop-other l = record {
  shape : HasShape l.core.layout.nodes l.self;
  told : (i : ℕ) → i < l.other → Tells l.core l.self i;
  others : (i : ℕ) → i < l.core.layout.nodes → i ≢ l.node → (core_of l.core).list l.node i ≡ []
      → Tells l.core l.self i;
}
