use Rattle.std.proofs.Common.{◌≡◌, ◌<◌, ℕ, true, false, length, get_or}
use Rattle.liveness.proofs.work.Worklist.full.Given as goal

abbrev pub invariant-loop-i : goal.invariant-loop-i
invariant-loop-i l = record {
  len : length l.work.queued.items ≡ l.n;
  each : (k : ℕ) → k < l.i → get_or l.work.queued.items k false ≡ true;
}
