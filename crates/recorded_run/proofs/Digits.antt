-- Digits read one after another.
use Rattle.std.proofs.Common.{◌≡◌, ◌≤◌, ◌<◌, ◌^◌, ℕ, List, [], ◌∷◌, length, None, refl, arith}
use Rattle.recorded_run.specs.Commands.{number_behind, number_of}

-- no digit follows a number of 29 bits or more
pub too_long : (n : ℕ) (s : List ℕ) → 2 ^ 28 ≤ n → 0 < length s → number_behind n s ≡ None
too_long n [] high some = absurd (omega arith)
too_long n (c ∷ cs) high some = grind arith

pub number_of_some : (s : List ℕ) → 0 < length s → number_of s ≡ number_behind 0 s
number_of_some [] some = absurd (omega arith)
number_of_some (c ∷ cs) some = refl
