use Rattle.std.proofs.Common.{◌≡◌, ◌≢◌, ℕ, ◌<◌, None}
use Rattle.lane_machine.specs.Places.{reserved_in}
use Rattle.lane_machine.proofs.silent.others_reserve.Given as goal

abbrev pub invariant-loop-k : goal.invariant-loop-k
invariant-loop-k l = (j : ℕ) → j < l.k → j ≢ l.number → reserved_in l.places j ≡ None
