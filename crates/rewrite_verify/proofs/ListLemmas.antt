-- Elements of lists, and numbers in ascending order.
use Rattle.std.proofs.Common.{◌≡◌, ℕ, zero, suc, ◌+◌, ◌<◌, ◌≤◌, ◌⊎◌, List, [], ◌∷◌, length, get_or, refl, sym, subst, inl, inr, arith}
use Rattle.std.specs.Prelude.{Contains, slice_index, slice_index_or}
use Rattle.std.specs.List.Sorted.{IsStrictlyIncreasing}
use Rattle.std.proofs.lemmas.List.Kept.{AllPairs-from_increasing}

pub first_or : {X : Type 0} (y b : X) (ys : List X) → Contains (y ∷ ys) b
    → (b ≡ y) ⊎ Contains ys b
first_or {X} y b ys h = go h.0 h.1 h.2
  where
    go : (k : ℕ) → k < length (y ∷ ys) → slice_index_or (y ∷ ys) k b ≡ b
        → (b ≡ y) ⊎ Contains ys b
    go zero lt is = inl (sym is)
    go (suc k) lt is = inr (k, omega (arith, lt), is)

pub behind_first : {X : Type 0} (y b : X) (ys : List X) → Contains ys b → Contains (y ∷ ys) b
behind_first y b ys h = let lt = h.1 in (suc h.0, omega arith, h.2)

pub in_front : {X : Type 0} (y : X) (ys : List X) → Contains (y ∷ ys) y
in_front y ys = (0, omega arith, refl)

pub no_element : {X : Type 0} (b : X) → Contains [] b → ⊥
no_element b h = let lt = h.1 in omega arith

-- numbers that ascend, from one on
abbrev pub Rises : ℕ → List ℕ → Type 0
Rises low [] = Unit {0}
Rises low (x ∷ xs) = (low ≤ x) × Rises (x + 1) xs

pub rise_between : (xs : List ℕ) (j k : ℕ) → IsStrictlyIncreasing xs → j < k → k < length xs
    → get_or xs j 0 < get_or xs k 0
rise_between xs j k up lt within = AllPairs-from_increasing xs up j k 0 lt within

tail_rises : (x : ℕ) (xs : List ℕ) → IsStrictlyIncreasing (x ∷ xs) → IsStrictlyIncreasing xs
tail_rises x xs h k lt =
    let e : suc k + 1 ≡ suc (k + 1) = omega arith in
    subst (λ j. slice_index xs k < slice_index (x ∷ xs) j) e (h (suc k) (omega arith))

rises_from : (low : ℕ) (xs : List ℕ) → (0 < length xs → low ≤ slice_index xs 0)
    → IsStrictlyIncreasing xs → Rises low xs
rises_from low [] le up = tt
rises_from low (x ∷ xs) le up = (
  le (omega arith),
  rises_from (x + 1) xs
      (λ some. let lt : x < slice_index xs 0 = up 0 (omega (arith, some)) in omega (arith, lt))
      (tail_rises x xs up),
)

pub rises : (xs : List ℕ) → IsStrictlyIncreasing xs → Rises 0 xs
rises xs up = rises_from 0 xs (λ some. omega arith) up

-- and back
rising_at : (low : ℕ) (xs : List ℕ) (k : ℕ) → Rises low xs → k + 1 < length xs
    → slice_index xs k < slice_index xs (k + 1)
rising_at low [] k up lt = absurd (omega (arith, lt))
rising_at low (x ∷ []) k up lt = absurd (omega (arith, lt))
rising_at low (x ∷ y ∷ ys) zero up lt = let le = up.1.0 in omega (arith, le)
rising_at low (x ∷ y ∷ ys) (suc k) up lt =
    let e : suc (k + 1) ≡ suc k + 1 = omega arith in
    subst (λ j. slice_index (y ∷ ys) k < slice_index (x ∷ y ∷ ys) j) e
    (rising_at (x + 1) (y ∷ ys) k up.1 (omega (arith, lt)))

pub increasing : (xs : List ℕ) → Rises 0 xs → IsStrictlyIncreasing xs
increasing xs up = λ k lt. rising_at 0 xs k up lt

above : (low : ℕ) (xs : List ℕ) (x : ℕ) → Rises low xs → Contains xs x → low ≤ x
above low [] x up c = absurd (no_element x c)
above low (y ∷ ys) x up c = elim (first_or y x ys c) [
  | inl is ↦ (let le = up.0 in omega (arith, is, le))
  | inr rest ↦ (
      let more = above (y + 1) ys x up.1 rest in
      let le = up.0 in
      omega (arith, more, le))
]

-- ascending numbers are known by which they are
pub one_order : (low high : ℕ) (xs ys : List ℕ) → Rises low xs → Rises high ys
    → ((x : ℕ) → Contains xs x → Contains ys x) → ((x : ℕ) → Contains ys x → Contains xs x)
    → xs ≡ ys
one_order low high [] [] up rise to from = refl
one_order low high [] (y ∷ ys) up rise to from = absurd (no_element y (from y (in_front y ys)))
one_order low high (x ∷ xs) [] up rise to from = absurd (no_element x (to x (in_front x xs)))
one_order low high (x ∷ xs) (y ∷ ys) up rise to from =
    let rest = one_order (x + 1) (y + 1) xs ys up.1 rise.1 tail_to tail_from in
    λ i. same i ∷ rest i
  where
    least : (y x : ℕ) (ys : List ℕ) → Rises (y + 1) ys → Contains (y ∷ ys) x → y ≤ x
    least y x ys up c = elim (first_or y x ys c) [
      | inl is ↦ omega (arith, is)
      | inr there ↦ (let more = above (y + 1) ys x up there in omega (arith, more))
    ]

    same : x ≡ y
    same =
        let one = least y x ys rise.1 (to x (in_front x xs)) in
        let other = least x y xs up.1 (from y (in_front y ys)) in
        omega (arith, one, other)

    tail_to : (z : ℕ) → Contains xs z → Contains ys z
    tail_to z c = elim (first_or y z ys (to z (behind_first x z xs c))) [
      | inl is ↦ absurd (
          let more = above (x + 1) xs z up.1 c in
          let e = same in
          omega (arith, more, e, is))
      | inr there ↦ there
    ]

    tail_from : (z : ℕ) → Contains ys z → Contains xs z
    tail_from z c = elim (first_or x z xs (from z (behind_first y z ys c))) [
      | inl is ↦ absurd (
          let more = above (y + 1) ys z rise.1 c in
          let e = same in
          omega (arith, more, e, is))
      | inr there ↦ there
    ]
