-- The numbers below n that pass a test, and how many they are.
use Rattle.std.proofs.Common.{◌≡◌, ℕ, zero, suc, ◌+◌, ◌-◌, ◌<◌, ◌≤◌, Bool, true, false, [], ◌∷◌, ◌++◌, length, get_or, refl, sym, ap, ◌∙◌, subst, inl, inr, arith}
use Rattle.std.proofs.lemmas.Bool.{cases_Bool, cases_lt}
use Rattle.std.proofs.lemmas.List.{get_or_append_left, get_or_push, length_push}
use Rattle.block_layout.specs.Layout.{passing}

-- how many numbers below n pass
abbrev pub count : (ℕ → Bool) → ℕ → ℕ
count p n = length (passing p n)

none_below : (p : ℕ → Bool) → passing p zero ≡ []
unfolding passing
none_below p = refl

one_more : (p : ℕ → Bool) (n : ℕ) → p n ≡ true → passing p (suc n) ≡ passing p n ++ n ∷ []
unfolding passing
one_more p n e = rw e refl

no_more : (p : ℕ → Bool) (n : ℕ) → p n ≡ false → passing p (suc n) ≡ passing p n
unfolding passing
no_more p n e = rw e refl

pub count_none : (p : ℕ → Bool) → count p zero ≡ 0
count_none p = ap length (none_below p)

pub count_more : (p : ℕ → Bool) (n : ℕ) → p n ≡ true → count p (suc n) ≡ count p n + 1
count_more p n e = ap length (one_more p n e) ∙ length_push (passing p n) n

pub count_same : (p : ℕ → Bool) (n : ℕ) → p n ≡ false → count p (suc n) ≡ count p n
count_same p n e = ap length (no_more p n e)

count_step : (p : ℕ → Bool) (n : ℕ) → (count p n ≤ count p (suc n)) × (count p (suc n) ≤ count p n + 1)
count_step p n = elim (cases_Bool (p n)) [
  | inl e ↦ let h : count p (suc n) ≡ count p n + 1 = count_more p n e in (omega arith, omega arith)
  | inr e ↦ let h : count p (suc n) ≡ count p n = count_same p n e in (omega arith, omega arith)
]

count_up : (p : ℕ → Bool) (m k : ℕ) → count p m ≤ count p (k + m)
count_up p m zero = let e : zero + m ≡ m = omega arith in rw e (omega arith)
count_up p m (suc k) =
    let e : suc k + m ≡ suc (k + m) = omega arith in
    let h : count p m ≤ count p (k + m) = count_up p m k in
    let s : (count p (k + m) ≤ count p (suc (k + m))) × (count p (suc (k + m)) ≤ count p (k + m) + 1) = count_step p (k + m) in
    rw e (omega arith)

pub count_mono : (p : ℕ → Bool) (m n : ℕ) → m ≤ n → count p m ≤ count p n
count_mono p m n h =
    let e : n - m + m ≡ n = omega arith in
    let P : ℕ → Type 0 = λ x. count p m ≤ count p x in
    subst P e (count_up p m (n - m))

pub count_below : (p : ℕ → Bool) (m n : ℕ) → p m ≡ true → m < n → count p m < count p n
count_below p m n e h =
    let s : count p (suc m) ≡ count p m + 1 = count_more p m e in
    let t : count p (suc m) ≤ count p n = count_mono p (suc m) n (omega arith) in
    omega arith

pub count_le : (p : ℕ → Bool) (n : ℕ) → count p n ≤ n
count_le p zero = let e : count p zero ≡ 0 = count_none p in omega arith
count_le p (suc n) =
    let h : count p n ≤ n = count_le p n in
    let s : (count p n ≤ count p (suc n)) × (count p (suc n) ≤ count p n + 1) = count_step p n in
    omega arith

-- where each number of a run passes
pub count_run : (p : ℕ → Bool) (f k : ℕ) → ((x : ℕ) → f ≤ x → x < f + k → p x ≡ true) → count p (f + k) ≡ count p f + k
count_run p f zero h = let e : f + zero ≡ f = omega arith in rw e (omega arith)
count_run p f (suc k) h =
    let e : f + suc k ≡ suc (f + k) = omega arith in
    let s : count p (suc (f + k)) ≡ count p (f + k) + 1 = count_more p (f + k) (h (f + k) (omega arith) (omega arith)) in
    let t : count p (f + k) ≡ count p f + k = count_run p f k (λ x a b. h x a (omega arith)) in
    rw e (omega arith)

gap_up : (p : ℕ → Bool) (f k : ℕ) → ((x : ℕ) → f ≤ x → x < f + k → p x ≡ false) → count p (f + k) ≡ count p f
gap_up p f zero h = let e : f + zero ≡ f = omega arith in rw e refl
gap_up p f (suc k) h =
    let e : f + suc k ≡ suc (f + k) = omega arith in
    let s : count p (suc (f + k)) ≡ count p (f + k) = count_same p (f + k) (h (f + k) (omega arith) (omega arith)) in
    let t : count p (f + k) ≡ count p f = gap_up p f k (λ x a b. h x a (omega arith)) in
    rw e (omega arith)

-- where no number from m up to n passes
pub count_gap : (p : ℕ → Bool) (m n : ℕ) → m ≤ n → ((x : ℕ) → m ≤ x → x < n → p x ≡ false) → count p n ≡ count p m
count_gap p m n h g =
    let e : m + (n - m) ≡ n = omega arith in
    let P : ℕ → Type 0 = λ x. count p x ≡ count p m in
    subst P e (gap_up p m (n - m) (λ x a b. g x a (omega arith)))

pub count_subset : (p q : ℕ → Bool) (n : ℕ) → ((x : ℕ) → p x ≡ true → q x ≡ true) → count p n ≤ count q n
count_subset p q zero h = let e : count p zero ≡ 0 = count_none p in omega arith
count_subset p q (suc n) h =
    let t : count p n ≤ count q n = count_subset p q n h in
    elim (cases_Bool (p n)) [
      | inl e ↦
          let a : count p (suc n) ≡ count p n + 1 = count_more p n e in
          let b : count q (suc n) ≡ count q n + 1 = count_more q n (h n e) in
          omega arith
      | inr e ↦
          let a : count p (suc n) ≡ count p n = count_same p n e in
          let b : (count q n ≤ count q (suc n)) × (count q (suc n) ≤ count q n + 1) = count_step q n in
          omega arith
    ]

-- a number that passes stands at the place that counts those below it
pub get_at : (p : ℕ → Bool) (m n : ℕ) → p m ≡ true → m < n → get_or (passing p n) (count p m) 0 ≡ m
get_at p m zero e h = absurd (omega arith)
get_at p m (suc n) e h = elim (cases_lt m n) [
  | inl below ↦
      let t : get_or (passing p n) (count p m) 0 ≡ m = get_at p m n e below in
      elim (cases_Bool (p n)) [
        | inl y ↦ rw (one_more p n y) (get_or_append_left (passing p n) (n ∷ []) 0 (count p m) (count_below p m n e below) ∙ t)
        | inr y ↦ rw (no_more p n y) t
      ]
  | inr above ↦
      let same : m ≡ n = omega arith in
      let P : ℕ → Type 0 = λ x. get_or (passing p (suc n)) (count p x) 0 ≡ x in
      let y : p n ≡ true = ap p (sym same) ∙ e in
      subst P (sym same) (rw (one_more p n y) (get_or_push (passing p n) n 0 (count p n) refl))
]

-- what stands at a place
pub record IsPassing (p : ℕ → Bool) (n i m : ℕ) : Type 0 where
  pub passes : p m ≡ true
  pub below : m < n
  pub place : count p m ≡ i

passing_here : (p : ℕ → Bool) (n i : ℕ) → p n ≡ true → i ≡ count p n → IsPassing p (suc n) i (get_or (passing p (suc n)) i 0)
passing_here p n i y e =
    let a : get_or (passing p (suc n)) i 0 ≡ n = ap (λ xs. get_or xs i 0) (one_more p n y) ∙ get_or_push (passing p n) n 0 i (sym e) in
    let P : ℕ → Type 0 = λ x. IsPassing p (suc n) i x in
    subst P (sym a) (record { passes = y; below = omega arith; place = sym e })

passing_up : (p : ℕ → Bool) (n i m : ℕ) → IsPassing p n i m → IsPassing p (suc n) i m
passing_up p n i m h = record { passes = h.passes; below = omega (arith, h.below); place = h.place }

pub at_place : (p : ℕ → Bool) (n i : ℕ) → i < count p n → IsPassing p n i (get_or (passing p n) i 0)
at_place p zero i h = let e : count p zero ≡ 0 = count_none p in absurd (omega arith)
at_place p (suc n) i h = elim (cases_Bool (p n)) [
  | inl y ↦
      let s : count p (suc n) ≡ count p n + 1 = count_more p n y in
      elim (cases_lt i (count p n)) [
        | inl below ↦
            let a : get_or (passing p n) i 0 ≡ get_or (passing p (suc n)) i 0 = sym (ap (λ xs. get_or xs i 0) (one_more p n y) ∙ get_or_append_left (passing p n) (n ∷ []) 0 i below) in
            let P : ℕ → Type 0 = λ x. IsPassing p (suc n) i x in
            subst P a (passing_up p n i _ (at_place p n i below))
        | inr above ↦ passing_here p n i y (omega arith)
      ]
  | inr y ↦
      let s : count p (suc n) ≡ count p n = count_same p n y in
      let a : get_or (passing p n) i 0 ≡ get_or (passing p (suc n)) i 0 = ap (λ xs. get_or xs i 0) (sym (no_more p n y)) in
      let P : ℕ → Type 0 = λ x. IsPassing p (suc n) i x in
      subst P a (passing_up p n i _ (at_place p n i (omega arith)))
]

-- a number that passes is known by how many are below it
pub same_place : (p : ℕ → Bool) (m n : ℕ) → p m ≡ true → p n ≡ true → count p m ≡ count p n → m ≡ n
same_place p m n a b e = elim (cases_lt m n) [
  | inl h ↦ let t : count p m < count p n = count_below p m n a h in absurd (omega arith)
  | inr h ↦ elim (cases_lt n m) [
    | inl k ↦ let t : count p n < count p m = count_below p n m b k in absurd (omega arith)
    | inr k ↦ omega arith
  ]
]
