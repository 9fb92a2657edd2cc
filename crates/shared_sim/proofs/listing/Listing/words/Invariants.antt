use Rattle.std.proofs.Common.{◌≡◌, length}
use Rattle.dsm_core.specs.CoreParts.{work_of, core_of}
use Rattle.shared_sim.proofs.Places.{AreCounted}
use Rattle.shared_sim.proofs.Rows.{allowed_from}
use Rattle.shared_sim.proofs.listing.Listing.words.Given as goal

abbrev pub invariant-loop-node : goal.invariant-loop-node
invariant-loop-node l = record {
  place : l.place ≡ length (allowed_from (work_of l.core) (core_of l.core) 0 l.node);
  counted : AreCounted (work_of l.core) (core_of l.core) l.tally l.words l.node;
}
