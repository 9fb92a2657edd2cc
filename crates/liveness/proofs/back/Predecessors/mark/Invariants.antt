use Rattle.std.proofs.Common.{◌≡◌, ◌≤◌, ◌/◌, ◌⊎◌, ℕ, true, false, length, get_or}
use Rattle.liveness.specs.Chains.{IsInto, InChain}
use Rattle.liveness.proofs.back.Predecessors.mark.Given as goal

abbrev pub invariant-loop-edge : goal.invariant-loop-edge
invariant-loop-edge l = record {
  len : length l.work.queued.items ≡ length l.fn.work.queued.items;
  edge : l.edge ≤ length l.self.links.items;
  marked : (e : ℕ) → IsInto l.self.heads.items l.self.links.items e l.i → InChain l.self.links.items e l.edge ⊎ (get_or l.work.queued.items (e / 2) false ≡ true);
  kept : (x : ℕ) → get_or l.fn.work.queued.items x false ≡ true → get_or l.work.queued.items x false ≡ true;
}

abbrev pub decreases-loop-edge : goal.decreases-loop-edge
decreases-loop-edge l = l.edge
