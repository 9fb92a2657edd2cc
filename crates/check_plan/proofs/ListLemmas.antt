-- Registers in ascending order, some of them left out.
use Rattle.std.proofs.Common.{◌≡◌, ℕ, zero, suc, ◌+◌, ◌<◌, ◌≤◌, ◌⊎◌, Bool, true, false, ◌==◌, cond, List, [], ◌∷◌, length, refl, sym, ap, ◌∙◌, subst, inl, inr, arith}
use Rattle.std.specs.Prelude.{Contains, ◌&&◌, ◌||◌, filter, slice_index_or}
use Rattle.std.specs.List.{list_any, range_with_len}
use Rattle.std.proofs.lemmas.Bool.{eqb-true, eq-eqb}
use Rattle.std.proofs.lemmas.Bool.Decides.{eqb_tells}
use Rattle.std.proofs.lemmas.List.Elements.{filter_passes, All-contains}
use Rattle.std.proofs.lemmas.List.FromFn.{length-range_with_len, get_or-range_with_len}

pub first_or : {X : Type 0} (y b : X) (ys : List X) → Contains (y ∷ ys) b → (b ≡ y) ⊎ Contains ys b
first_or {X} y b ys h = go h.0 h.1 h.2
  where
    go : (k : ℕ) → k < length (y ∷ ys) → slice_index_or (y ∷ ys) k b ≡ b → (b ≡ y) ⊎ Contains ys b
    go zero lt is = inl (sym is)
    go (suc k) lt is = inr (k, omega (arith, lt), is)

pub behind : {X : Type 0} (y b : X) (ys : List X) → Contains ys b → Contains (y ∷ ys) b
behind y b ys h = let lt = h.1 in (suc h.0, omega arith, h.2)

pub in_front : {X : Type 0} (y : X) (ys : List X) → Contains (y ∷ ys) y
in_front y ys = (0, omega arith, refl)

pub no_element : {X : Type 0} (b : X) → Contains [] b → ⊥
no_element b h = let lt = h.1 in omega arith

-- two tests that pass together are the same
pub same_test : (b c : Bool) → (b ≡ true → c ≡ true) → (c ≡ true → b ≡ true) → b ≡ c
same_test true c to from = sym (to refl)
same_test false true to from = from refl
same_test false false to from = refl

-- what passes a filter
pub passed : {X : Type 0} (p : X → Bool) (xs : List X) (x : X) → Contains (filter p xs) x → p x ≡ true
passed {X} p xs x h = All-contains (λ y. p y ≡ true) (filter p xs) x (filter_passes p xs) h

pub was_there : {X : Type 0} (p : X → Bool) (xs : List X) (x : X) → Contains (filter p xs) x → Contains xs x
was_there p [] x h = h
was_there {X} p (y ∷ ys) x h = go (was_there p ys x) (p y) refl h
  where
    go : (Contains (filter p ys) x → Contains ys x) → (b : Bool) → p y ≡ b → Contains (cond b (y ∷ filter p ys) (filter p ys)) x → Contains (y ∷ ys) x
    go more true e c = elim (first_or y x (filter p ys) c) [
      | inl is ↦ subst (λ z. Contains (y ∷ ys) z) (sym is) (in_front y ys)
      | inr rest ↦ behind y x ys (more rest)
    ]
    go more false e c = behind y x ys (more c)

-- tests that agree on the elements leave the same
pub agree : {X : Type 0} (p q : X → Bool) (xs : List X) → ((x : X) → Contains xs x → p x ≡ q x) → filter p xs ≡ filter q xs
agree p q [] h = refl
agree p q (x ∷ xs) h =
    ap (λ b. cond b (x ∷ filter p xs) (filter p xs)) (h x (in_front x xs))
    ∙ ap (λ ys. cond (q x) (x ∷ ys) ys) (agree p q xs (λ y c. h y (behind x y xs c)))

-- a test of two parts filters by one after the other
pub two_tests : (p q s : ℕ → Bool) (xs : List ℕ) → ((r : ℕ) → Contains xs r → p r ≡ (q r && s r))
    → filter p xs ≡ filter s (filter q xs)
two_tests p q s [] h = refl
two_tests p q s (x ∷ xs) h =
    ap (λ b. cond b (x ∷ filter p xs) (filter p xs)) (h x (in_front x xs))
    ∙ ap (λ ys. cond (q x && s x) (x ∷ ys) ys) (two_tests p q s xs (λ y c. h y (behind x y xs c)))
    ∙ split (q x) (s x) refl
  where
    split : (a b : Bool) → s x ≡ b
        → cond (a && b) (x ∷ filter s (filter q xs)) (filter s (filter q xs))
        ≡ filter s (cond a (x ∷ filter q xs) (filter q xs))
    split true b e =
        ap (λ c. cond c (x ∷ filter s (filter q xs)) (filter s (filter q xs))) (sym e)
    split false b e = refl

-- the numbers of a range
pub range_within : (a n r : ℕ) → Contains (range_with_len a n) r → (a ≤ r) × (r < a + n)
range_within a n r h =
    let len = length-range_with_len a n in
    let lt : h.0 < n = let l = h.1 in omega (arith, l, len) in
    let is = sym (get_or-range_with_len a n h.0 r lt) ∙ h.2 in (omega (arith, is), omega (arith, is, lt))

-- a number is once in a range
pub once : (a n q : ℕ) → length (filter (λ r. r == q) (range_with_len a n)) ≤ 1
once a zero q = omega arith
once a (suc n) q = elim (eqb_tells a q) [
  | inl same ↦
      let none = absent (a + 1) n q (let e = same.1 in omega (arith, e)) in
      let here : length (filter (λ r. r == q) (range_with_len a (suc n))) ≡ suc (length (filter (λ r. r == q) (range_with_len (a + 1) n))) =
      ap (λ b. length (cond b (a ∷ filter (λ r. r == q) (range_with_len (a + 1) n)) (filter (λ r. r == q) (range_with_len (a + 1) n)))) same.0 in
      omega (arith, here, none)
  | inr other ↦
      let more = once (a + 1) n q in
      let here : length (filter (λ r. r == q) (range_with_len a (suc n))) ≡ length (filter (λ r. r == q) (range_with_len (a + 1) n)) =
      ap (λ b. length (cond b (a ∷ filter (λ r. r == q) (range_with_len (a + 1) n)) (filter (λ r. r == q) (range_with_len (a + 1) n)))) other.0 in
      omega (arith, here, more)
]
  where
    absent : (a n q : ℕ) → q < a → length (filter (λ r. r == q) (range_with_len a n)) ≡ 0
    absent a zero q lt = refl
    absent a (suc n) q lt = elim (eqb_tells a q) [
      | inl same ↦ absurd (let e = same.1 in omega (arith, lt, e))
      | inr other ↦
          ap (λ b. length (cond b (a ∷ filter (λ r. r == q) (range_with_len (a + 1) n)) (filter (λ r. r == q) (range_with_len (a + 1) n)))) other.0
          ∙ absent (a + 1) n q (omega (arith, lt))
    ]

-- what passes either of two tests
pub either : (p q : ℕ → Bool) (xs : List ℕ) → length (filter (λ r. p r || q r) xs) ≤ length (filter p xs) + length (filter q xs)
either p q [] = omega arith
either p q (x ∷ xs) = go (p x) (q x) (either p q xs)
  where
    go : (a b : Bool) → length (filter (λ r. p r || q r) xs) ≤ length (filter p xs) + length (filter q xs)
        → length (cond (a || b) (x ∷ filter (λ r. p r || q r) xs) (filter (λ r. p r || q r) xs)) ≤ length (cond a (x ∷ filter p xs) (filter p xs)) + length (cond b (x ∷ filter q xs) (filter q xs))
    go true true h = omega (arith, h)
    go true false h = omega (arith, h)
    go false true h = omega (arith, h)
    go false false h = omega (arith, h)

pub nothing : (xs : List ℕ) → filter (λ r. false) xs ≡ []
nothing [] = refl
nothing (x ∷ xs) = nothing xs

-- at most so many of a range are elements of a list
pub among_few : (qs : List ℕ) (a n : ℕ) → length (filter (λ r. list_any (λ q. r == q) qs) (range_with_len a n)) ≤ length qs
among_few [] a n = let none = ap (λ xs. length xs) (nothing (range_with_len a n)) in omega (arith, none)
among_few (q ∷ qs) a n =
    let one = once a n q in
    let rest = among_few qs a n in
    let both = either (λ r. r == q) (λ r. list_any (λ x. r == x) qs) (range_with_len a n) in omega (arith, one, rest, both)

-- an element of a list, as a test
pub any_of : (r : ℕ) (qs : List ℕ) → Contains qs r → list_any (λ q. r == q) qs ≡ true
any_of r [] h = absurd (no_element r h)
any_of r (q ∷ qs) h = elim (first_or q r qs h) [
  | inl is ↦ ap (λ b. b || list_any (λ x. r == x) qs) (eq-eqb r q is)
  | inr rest ↦ ap (λ b. (r == q) || b) (any_of r qs rest) ∙ or_true (r == q)
]
  where
    or_true : (b : Bool) → (b || true) ≡ true
    or_true true = refl
    or_true false = refl

pub of_any : (r : ℕ) (qs : List ℕ) → list_any (λ q. r == q) qs ≡ true → Contains qs r
of_any r [] h = cc
of_any r (q ∷ qs) h = go (of_any r qs) (r == q) refl h
  where
    go : (list_any (λ x. r == x) qs ≡ true → Contains qs r) → (b : Bool) → (r == q) ≡ b → (b || list_any (λ x. r == x) qs) ≡ true → Contains (q ∷ qs) r
    go more true e c = subst (λ x. Contains (x ∷ qs) r) (eqb-true r q e) (in_front r qs)
    go more false e c = behind q r qs (more c)
