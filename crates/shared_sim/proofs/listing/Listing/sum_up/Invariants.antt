use Rattle.std.proofs.Common.{◌≡◌, ℕ, ◌<◌, ◌≤◌, ◌*◌, true, false, length, get_or}
use Rattle.dsm_core.specs.CoreParts.{work_of, core_of}
use Rattle.shared_sim.proofs.Rows.{allowed_from}
use Rattle.shared_sim.proofs.listing.Listing.sum_up.Given as goal

abbrev pub invariant-loop-node : goal.invariant-loop-node
invariant-loop-node l = record {
  count : l.count ≡ length (allowed_from (work_of l.core) (core_of l.core) 0 l.node);
  few : l.count ≤ l.node * 17;
  calm : l.calm ≡ true → (i : ℕ) → i < l.node → get_or l.self.no_mail i false ≡ true;
}
