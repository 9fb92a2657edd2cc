-- Sums of words that count.
use Rattle.std.specs.Prelude.{ℕ, ◌+◌, ◌<◌, ◌≤◌, nat_lt, List, [], ◌∷◌, length, slice_index_or}
use Rattle.word_visits.specs.Tallies.{WordTally}
use Rattle.word_visits.specs.Visits.{WordVisits}

-- what is said of words, of which these are the visits, where so many before each of them count, and
-- last so many in all
abbrev pub tallies_in : List WordVisits → (sums : List ℕ) → List WordTally
tallies_in [] ss = []
tallies_in (v ∷ vs) [] = []
tallies_in (v ∷ vs) (s ∷ ss) =
    record { counts = nat_lt s (slice_index_or ss 0 s); looks = v.looks } ∷ tallies_in vs ss

-- each of these sums is the one before it, or one more
abbrev pub RiseByOne : (sums : List ℕ) → Type 0
RiseByOne ss = (k : ℕ) → k + 1 < length ss
    → (slice_index_or ss k 0 ≤ slice_index_or ss (k + 1) 0)
    × (slice_index_or ss (k + 1) 0 ≤ slice_index_or ss k 0 + 1)
