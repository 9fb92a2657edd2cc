-- What a binary search by a number finds in a list where that number rises.
use Rattle.std.proofs.Common.{◌≡◌, ◌≢◌, ℕ, ◌<◌, ◌≤◌, List, length, Result, Ok, Err, inl, inr, sym, arith}
use Rattle.std.specs.Prelude.{MatchResult, slice_index_or}
use Rattle.std.specs.List.Sorted.{IsSearchInRange, IsBinarySearchResult, IsNonDecreasingBy}
use Rattle.std.specs.Ordering.{nat_cmp, ordering_index}
use Rattle.std.proofs.lemmas.Cmp.{ranked}
use Rattle.std.proofs.lemmas.Bool.{cases_lt}
use Rattle.std.proofs.lemmas.Bool.Decides.{nat_tests}

compares : (p q a : ℕ) → p ≤ q → ordering_index (nat_cmp p a) ≤ ordering_index (nat_cmp q a)
compares p q a le = grind (arith, nat_tests)

pub found_by : {X : Type 0} (n : X → ℕ) (xs : List X) (a : ℕ) (r : Result ℕ ℕ) → IsNonDecreasingBy n xs
    → IsSearchInRange r (length xs) → IsBinarySearchResult (λ y. nat_cmp (n y) a) xs r
    → MatchResult r (λ i. (i < length xs) × ((d : X) → n (slice_index_or xs i d) ≡ a)) (λ i. (k : ℕ) (d : X) → k < length xs → n (slice_index_or xs k d) ≢ a)
found_by n xs a (Ok i) up within equal = (within, λ d. ranked _ a _ (sym (equal d)))
found_by n xs a (Err i) up within parted = λ k d lt is.
    let rise : IsNonDecreasingBy (λ y. ordering_index (nat_cmp (n y) a)) xs = λ p q d le in_range. compares _ _ a (up p q d le in_range) in
    elim (cases_lt k i) [
      | inl l ↦ (let below : n (slice_index_or xs k d) < a = ranked _ a _ (sym ((parted rise).0 k d (omega arith) l)) in omega (arith, below, is))
      | inr ge ↦ (let above : a < n (slice_index_or xs k d) = ranked _ a _ (sym ((parted rise).1 k d ge lt)) in omega (arith, above, is))
    ]
