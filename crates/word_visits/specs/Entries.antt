-- What the entries of a table of visits say, and its strides.
use Rattle.std.specs.Prelude.{◌≡◌, ℕ, zero, suc, ◌+◌, ◌-◌, ◌<◌, ◌≤◌, ◌==◌, ◌&&◌, ◌⊎◌, nat_le, Bool, false, Some, List, [], ◌∷◌, length, slice_index_or}
use Rattle.node_words.specs.jump_map.declared.strides.StrideKind.{StrideKind}
use Rattle.node_words.specs.jump_map.declared.strides.StrideKind.TheVariants as stride
use Rattle.node_words.specs.Runs.{LooksAtMost}
use Rattle.node_words.specs.Trails.{trail_of}
use Rattle.word_visits.specs.declared.visit.Visit.{Visit}
use Rattle.word_visits.specs.Visits.{WordVisits}

-- what an entry says, where so many stretches began at its word or before it, and so many ended
-- before it: the others have it
abbrev pub visits_by : (begun ended : ℕ) → Visit → WordVisits
visits_by begun ended e = record { times = begun - ended; looks = e.looks }

-- an entry at whose word one more stretch begins, and one before which one more ends
abbrev pub once_begun : Visit → Visit
once_begun e = record e { begun = e.begun + 1 }

abbrev pub once_ended : Visit → Visit
once_ended e = record e { ended = e.ended + 1 }

-- what entries say, where so many stretches began and ended before them
abbrev pub visits_in : (begun ended : ℕ) → List Visit → List WordVisits
visits_in b d [] = []
visits_in b d (e ∷ es) =
    visits_by (b + e.begun) (d + e.ended) e ∷ visits_in (b + e.begun) (d + e.ended) es

-- how many stretches began at these entries
abbrev pub begun_in : List Visit → ℕ
begun_in [] = 0
begun_in (e ∷ es) = e.begun + begun_in es

-- at no entry more stretches ended than began before it; and so many end after the last
abbrev pub is_ordered : (begun ended behind : ℕ) → List Visit → Bool
is_ordered b d behind [] = d + behind == b
is_ordered b d behind (e ∷ es) =
    nat_le (d + e.ended) (b + e.begun) && is_ordered (b + e.begun) (d + e.ended) behind es

-- whether the word of a number looks, by its entry
abbrev pub looks_in : List Visit → ℕ → Bool
looks_in [] k = false
looks_in (e ∷ es) zero = e.looks
looks_in (e ∷ es) (suc k) = looks_in es k

-- a stride of a kind, from a number on, is short, and goes over no word that looks
pub record IsFree (looks : ℕ → Bool) (k : ℕ) (kind : StrideKind) : Type 0 where
  pub short : (trail_of kind k).reach ≤ 22
  pub free : LooksAtMost looks (trail_of kind k).told k (trail_of kind k).reach

-- each of these strides is so
abbrev pub AreFree : (ℕ → Bool) → List StrideKind → Type 0
AreFree looks kinds =
    (k : ℕ) (d : StrideKind) → k < length kinds → IsFree looks k (slice_index_or kinds k d)

-- each of these strides is short
abbrev pub AreShort : List StrideKind → Type 0
AreShort kinds = (k : ℕ) (d : StrideKind) → k < length kinds
    → (trail_of (slice_index_or kinds k d) k).reach ≤ 22

-- a stride is what it was, or slow
abbrev pub IsSlowedTo : (old new : StrideKind) → Type 0
IsSlowedTo old new = (new ≡ stride.Slow) ⊎ (new ≡ old)

-- each of these strides is so
pub record AreSlowedTo (old new : List StrideKind) : Type 0 where
  pub count : length new ≡ length old
  pub each : (k : ℕ) (d : StrideKind) → k < length new
      → IsSlowedTo (slice_index_or old k d) (slice_index_or new k d)

-- strides from words up to that of a number don't go over it, or tell of it
abbrev pub ArePartedAt : ℕ → List StrideKind → Type 0
ArePartedAt n kinds = (k : ℕ) (d : StrideKind) → k < length kinds → k ≤ n
    → n < k + (trail_of (slice_index_or kinds k d) k).reach
    → (trail_of (slice_index_or kinds k d) k).told ≡ Some n

-- how many words of the stride from a number on stand after its jump
abbrev pub behind_at : List StrideKind → ℕ → ℕ
behind_at kinds k = (trail_of (slice_index_or kinds k stride.Slow) k).behind
