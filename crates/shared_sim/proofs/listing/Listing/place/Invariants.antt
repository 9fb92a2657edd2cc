use Rattle.std.proofs.Common.{◌≤◌}
use Rattle.shared_sim.proofs.listing.Listing.place.Given as goal

abbrev pub invariant-loop-other : goal.invariant-loop-other
invariant-loop-other l = l.place ≤ l.other
