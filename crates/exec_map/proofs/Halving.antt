-- What is found by halving in ascending stretches.
use Rattle.std.proofs.Common.{◌≡◌, ℕ, ◌-◌, ◌<◌, ◌≤◌, true, false, inl, inr, List, length, get_or, refl, sym, subst, ◌∙◌, arith}
use Rattle.std.specs.Prelude.{All, nat_le}
use Rattle.std.specs.List.{list_any, AllWithin}
use Rattle.std.specs.List.Sorted.{IsNonDecreasingBy}
use Rattle.std.proofs.lemmas.Bool.{cases_lt, cases_eq, false≢true, le-leb, lt-leb}
use Rattle.std.proofs.lemmas.Bool.Decides.{nat_tests}
use Rattle.std.proofs.lemmas.List.Recursion.{or_at, or_from_places}
use Rattle.exec_map.specs.declared.stretches.NumberRange.{NumberRange}
use Rattle.exec_map.specs.Index.{AreNumberRanges, has, have}

-- the ends ascend
pub ends_ascend : (xs : List NumberRange) → AreNumberRanges xs → IsNonDecreasingBy (λ r. r.end) xs
ends_ascend xs h i j d le in_j =
    elim (cases_eq i j) [
      | inl e ↦ let E : (k : ℕ) → (get_or xs k d).end ≤ (get_or xs k d).end = λ k. omega arith in grind (arith, E)
      | inr ne ↦
          let lt : i < j = omega arith in
          let one : (get_or xs j d).first < (get_or xs j d).end = h.some j d in_j in
          let two : (get_or xs i d).end ≤ (get_or xs j d).first = h.ascending i j d lt in_j in
          omega arith
    ]

pub outside_below : (r : NumberRange) (n : ℕ) → r.end ≤ n → has n r ≡ false
outside_below r n h = grind (arith, nat_tests)

pub outside_above : (r : NumberRange) (n : ℕ) → n < r.first → has n r ≡ false
outside_above r n h = grind (arith, nat_tests)

pub inside : (r : NumberRange) (n : ℕ) → r.first ≤ n → n < r.end → has n r ≡ true
inside r n h k = grind (arith, nat_tests)

-- a number above the stretches before a place, and below the one there, is in none
pub have_none : (xs : List NumberRange) (n p : ℕ) (d : NumberRange) → AreNumberRanges xs → AllWithin (λ r. r.end ≤ n) xs 0 p → (p < length xs → n < (get_or xs p d).first) → have xs n ≡ false
have_none xs n p d h ended less =
    or_from_places (list_any (has n)) (has n) refl (λ _ _. refl) xs d (λ k in_k. elim (cases_lt k p) [
      | inl below ↦ outside_below _ n (ended k d (omega arith) below)
      | inr le ↦
          let lt : p < length xs = omega arith in
          elim (cases_eq p k) [
            | inl e ↦ let P : ℕ → Type 0 = λ q. n < (get_or xs q d).first in outside_above _ n (subst P e (less lt))
            | inr ne ↦
                let above : p < k = omega arith in
                let far : (get_or xs p d).end ≤ (get_or xs k d).first = h.ascending p k d above in_k in
                let one : (get_or xs p d).first < (get_or xs p d).end = h.some p d lt in
                outside_above _ n (omega (arith, less lt))
          ]
    ])

-- a number in the stretch at a place
pub have_here : (xs : List NumberRange) (n p : ℕ) (d : NumberRange) → p < length xs → (get_or xs p d).first ≤ n → n < (get_or xs p d).end → have xs n ≡ true
have_here xs n p d lt from to = or_at (list_any (has n)) (has n) refl (λ _ _. refl) xs p d lt (inside _ n from to)

-- at the first stretch that ends above the number, the number is in it or in none
pub have_at : (xs : List NumberRange) (n p : ℕ) (d : NumberRange) → AreNumberRanges xs → AllWithin (λ r. r.end ≤ n) xs 0 p → AllWithin (λ r. n < r.end) xs p (length xs) → p < length xs → nat_le (get_or xs p d).first n ≡ have xs n
have_at xs n p d h ended ahead lt =
    elim (cases_lt n (get_or xs p d).first) [
      | inl less ↦ lt-leb _ _ less ∙ sym (have_none xs n p d h ended (λ _. less))
      | inr le ↦ le-leb _ _ le ∙ sym (have_here xs n p d lt le (ahead p d (omega arith) lt))
    ]

-- what is low
pub none_high : (end : ℕ) (rs : List NumberRange) (n : ℕ) → All (λ r. r.end ≤ end) rs → end ≤ n → have rs n ≡ false
none_high end rs n low high = or_from_places (list_any (has n)) (has n) refl (λ _ _. refl) rs (record { first = 0; end = 0 }) (λ k in_k. let at = low k (record { first = 0; end = 0 }) in_k in outside_below _ n (omega (arith, at)))

-- the same numbers in other stretches are as low
pub stays_low : (end : ℕ) (rs ms : List NumberRange) → All (λ r. r.end ≤ end) rs → AreNumberRanges ms → ((n : ℕ) → have ms n ≡ have rs n) → All (λ r. r.end ≤ end) ms
stays_low end rs ms low h same k d in_k =
    elim (cases_lt end (get_or ms k d).end) [
      | inl lt ↦
          let some : (get_or ms k d).first < (get_or ms k d).end = h.some k d in_k in
          let here : have ms ((get_or ms k d).end - 1) ≡ true = have_here ms ((get_or ms k d).end - 1) k d in_k (omega arith) (omega arith) in
          absurd (false≢true (sym (none_high end rs ((get_or ms k d).end - 1) low (omega arith)) ∙ sym (same ((get_or ms k d).end - 1)) ∙ here))
      | inr le ↦ le
    ]
