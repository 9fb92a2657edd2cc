-- What is filtered from a range, and sums over it, where one number's part changes.
use Rattle.std.proofs.Common.{◌≡◌, ◌≢◌, ℕ, zero, suc, ◌+◌, ◌<◌, ◌≤◌, Bool, true, false, cond, List, [], ◌∷◌, length, get_or, refl, sym, ap, ◌∙◌, arith, inl, inr}
use Rattle.std.specs.List.{filter, range_with_len, remove}
use Rattle.std.proofs.lemmas.Bool.{cases_Bool, cases_eq}

-- a number of the range that passes
pub record IsFound (test : ℕ → Bool) (a n p : ℕ) : Type 0 where
  pub passes : test p ≡ true
  pub low : a ≤ p
  pub high : p < a + n

wider : (test : ℕ → Bool) (a n p : ℕ) → IsFound test (a + 1) n p → IsFound test a (suc n) p
wider test a n p f = record { passes = f.passes; low = omega (arith, f.low); high = omega (arith, f.high) }

-- what is filtered is found
pub found : (test : ℕ → Bool) (a n k : ℕ) → k < length (filter test (range_with_len a n)) → IsFound test a n (get_or (filter test (range_with_len a n)) k 0)
found test a zero k lt = absurd (omega (arith, lt))
found test a (suc n) zero lt = elim (cases_Bool (test a)) [
  | inl e ↦ rw e (record { passes = e; low = omega arith; high = omega arith })
  | inr e ↦ rw e (wider test a n _ (found test (a + 1) n zero (rw e at lt)))
]
found test a (suc n) (suc k) lt = elim (cases_Bool (test a)) [
  | inl e ↦ (let more : suc k < suc (length (filter test (range_with_len (a + 1) n))) = rw e at lt in
      rw e (wider test a n _ (found test (a + 1) n k (omega (arith, more)))))
  | inr e ↦ rw e (wider test a n _ (found test (a + 1) n (suc k) (rw e at lt)))
]

pub length_filtered : (test : ℕ → Bool) (a n : ℕ) → length (filter test (range_with_len a n)) ≤ n
length_filtered test a zero = omega arith
length_filtered test a (suc n) = elim (cases_Bool (test a)) [
  | inl e ↦ rw e (let rest = length_filtered test (a + 1) n in omega (arith, rest))
  | inr e ↦ rw e (let rest = length_filtered test (a + 1) n in omega (arith, rest))
]

pub filter_same : (test test' : ℕ → Bool) (a n : ℕ) → ((q : ℕ) → a ≤ q → test' q ≡ test q) → filter test' (range_with_len a n) ≡ filter test (range_with_len a n)
filter_same test test' a zero same = refl
filter_same test test' a (suc n) same =
    ap (λ b. cond b (a ∷ filter test' (range_with_len (a + 1) n)) (filter test' (range_with_len (a + 1) n))) (same a (omega arith))
    ∙ ap (λ (xs : List ℕ). cond (test a) (a ∷ xs) xs) (filter_same test test' (a + 1) n (λ q low. same q (omega (arith, low))))

pub filter_all : (test : ℕ → Bool) (a n : ℕ) → ((q : ℕ) → test q ≡ true) → filter test (range_with_len a n) ≡ range_with_len a n
filter_all test a zero all = refl
filter_all test a (suc n) all = rw (all a) (ap (λ (xs : List ℕ). a ∷ xs) (filter_all test (a + 1) n all))

-- one that passes no more is removed
pub filter_removed : (test test' : ℕ → Bool) (a n k p : ℕ) → ((q : ℕ) → q ≢ p → test' q ≡ test q) → test p ≡ true → test' p ≡ false → k < length (filter test (range_with_len a n)) → p ≡ get_or (filter test (range_with_len a n)) k 0 → remove (filter test (range_with_len a n)) k ≡ filter test' (range_with_len a n)
filter_removed test test' a zero k p same on off lt is = absurd (omega (arith, lt))
filter_removed test test' a (suc n) zero p same on off lt is = elim (cases_Bool (test a)) [
  | inl e ↦
      let at : p ≡ a = rw e at is in
      rw (e, ap test' (sym at) ∙ off) (sym (filter_same test test' (a + 1) n (λ q low. same q (λ q_is. absurd (omega (arith, low, at, q_is))))))
  | inr e ↦
      let ne : a ≢ p = λ at. absurd (let x = ap test at in cc) in
      rw (e, same a ne ∙ e) (filter_removed test test' (a + 1) n zero p same on off (rw e at lt) (rw e at is))
]
filter_removed test test' a (suc n) (suc k) p same on off lt is = elim (cases_Bool (test a)) [
  | inl e ↦
      let more : suc k < suc (length (filter test (range_with_len (a + 1) n))) = rw e at lt in
      let there : p ≡ get_or (filter test (range_with_len (a + 1) n)) k 0 = rw e at is in
      let f = found test (a + 1) n k (omega (arith, more)) in
      let low = f.low in
      let ne : a ≢ p = λ at. absurd (omega (arith, low, at, there)) in
      rw (e, same a ne ∙ e) (ap (λ (xs : List ℕ). a ∷ xs) (filter_removed test test' (a + 1) n k p same on off (omega (arith, more)) there))
  | inr e ↦
      let ne : a ≢ p = λ at. absurd (let x = ap test at in cc) in
      rw (e, same a ne ∙ e) (filter_removed test test' (a + 1) n (suc k) p same on off (rw e at lt) (rw e at is))
]

-- the sum of a function over n numbers, from a on
abbrev pub total : (ℕ → ℕ) → ℕ → ℕ → ℕ
total f a zero = 0
total f a (suc n) = f a + total f (a + 1) n

total_same : (f g : ℕ → ℕ) (a n p : ℕ) → ((q : ℕ) → q ≢ p → g q ≡ f q) → p < a → total g a n ≡ total f a n
total_same f g a zero p same lt = refl
total_same f g a (suc n) p same lt =
    let here = same a (λ at. absurd (omega (arith, lt, at))) in
    let rest = total_same f g (a + 1) n p same (omega (arith, lt)) in
    omega (arith, here, rest)

-- the sum falls where one of its parts does
pub total_less : (f g : ℕ → ℕ) (a n p : ℕ) → ((q : ℕ) → q ≢ p → g q ≡ f q) → g p < f p → a ≤ p → p < a + n → total g a n < total f a n
total_less f g a zero p same less low high = absurd (omega (arith, low, high))
total_less f g a (suc n) p same less low high = elim (cases_eq a p) [
  | inl at ↦
      let rest = total_same f g (a + 1) n p same (omega (arith, at)) in
      let new = ap g at in
      let old = ap f at in
      omega (arith, rest, new, old, less)
  | inr ne ↦
      let here = same a ne in
      let rest = total_less f g (a + 1) n p same less (omega (arith, low, ne)) (omega (arith, high)) in
      omega (arith, here, rest)
]

-- none passes
pub filter_none : (test : ℕ → Bool) (a n : ℕ) → ((q : ℕ) → a ≤ q → q < a + n → test q ≡ false) → filter test (range_with_len a n) ≡ []
filter_none test a zero none = refl
filter_none test a (suc n) none = rw (none a (omega arith) (omega arith)) (filter_none test (a + 1) n (λ q low high. none q (omega (arith, low)) (omega (arith, high))))

-- one passes alone
pub filter_one : (test : ℕ → Bool) (a n p : ℕ) → ((q : ℕ) → a ≤ q → q < a + n → q ≢ p → test q ≡ false) → test p ≡ true → a ≤ p → p < a + n → filter test (range_with_len a n) ≡ p ∷ []
filter_one test a zero p others on low high = absurd (omega (arith, low, high))
filter_one test a (suc n) p others on low high = elim (cases_eq a p) [
  | inl at ↦
      let here : test a ≡ true = ap test at ∙ on in
      let rest = filter_none test (a + 1) n (λ q l h. others q (omega (arith, l)) (omega (arith, h)) (λ is. absurd (omega (arith, l, at, is)))) in
      rw (here, rest) (ap (λ x. x ∷ []) at)
  | inr ne ↦
      rw (others a (omega arith) (omega arith) ne) (filter_one test (a + 1) n p (λ q l h. others q (omega (arith, l)) (omega (arith, h))) on (omega (arith, low, ne)) (omega (arith, high)))
]

cons_nil : (a p : ℕ) (xs : List ℕ) → a ∷ xs ≡ p ∷ [] → (a ≡ p) × (xs ≡ [])
cons_nil a p [] is = ((cc), refl)
cons_nil a p (x ∷ xs) is = absurd (let l = ap length is in omega (arith, l))

cons_is_no_nil : (a : ℕ) (xs : List ℕ) → a ∷ xs ≡ [] → ⊥
cons_is_no_nil a xs is = absurd (let l = ap length is in omega (arith, l))

-- where none is filtered, none passes
pub none_from_filter : (test : ℕ → Bool) (a n q : ℕ) → filter test (range_with_len a n) ≡ [] → a ≤ q → q < a + n → test q ≡ false
none_from_filter test a zero q is low high = absurd (omega (arith, low, high))
none_from_filter test a (suc n) q is low high = elim (cases_Bool (test a)) [
  | inl e ↦ absurd (cons_is_no_nil a _ (rw e at is))
  | inr e ↦ elim (cases_eq q a) [
    | inl at ↦ ap test at ∙ e
    | inr ne ↦ none_from_filter test (a + 1) n q (rw e at is) (omega (arith, low, ne)) (omega (arith, high))
  ]
]

-- where one is filtered, no other passes
pub one_from_filter : (test : ℕ → Bool) (a n p q : ℕ) → filter test (range_with_len a n) ≡ p ∷ [] → a ≤ q → q < a + n → q ≢ p → test q ≡ false
one_from_filter test a zero p q is low high ne = absurd (omega (arith, low, high))
one_from_filter test a (suc n) p q is low high ne = elim (cases_Bool (test a)) [
  | inl e ↦
      let parts = cons_nil a p _ (rw e at is) in
      let at = parts.0 in
      none_from_filter test (a + 1) n q parts.1 (omega (arith, low, at, ne)) (omega (arith, high))
  | inr e ↦ elim (cases_eq q a) [
    | inl at ↦ ap test at ∙ e
    | inr other ↦ one_from_filter test (a + 1) n p q (rw e at is) (omega (arith, low, other)) (omega (arith, high)) ne
  ]
]
