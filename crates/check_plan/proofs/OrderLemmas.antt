-- Candidates in the order in which they are taken: which they are, and that they differ.
use Rattle.std.proofs.Common.{◌≡◌, ◌≢◌, ℕ, zero, suc, ◌+◌, ◌<◌, ◌≤◌, ◌⊎◌, Bool, true, false, cond, List, [], ◌∷◌, ◌++◌, length, refl, sym, ap, ◌∙◌, inl, inr, arith}
use Rattle.std.specs.Prelude.{Contains, not, map, filter, slice_index_or}
use Rattle.std.specs.List.{range_with_len}
use Rattle.std.proofs.lemmas.Bool.{false≢true}
use Rattle.std.proofs.lemmas.List.{length-map, length-append}
use Rattle.std.proofs.lemmas.List.Filters.{length-filter_both}
use Rattle.templates.specs.declared.plans.Scratch.{Scratch}
use Rattle.templates.specs.Plans.{no_scratch}
use Rattle.templates.specs.WholePlan.{unspilled, spilled, in_order}
use Rattle.check_plan.proofs.ListLemmas.{passed, was_there, first_or, behind, no_element}

pub order_length : (dead : ℕ → Bool) (rs : List ℕ) → length (in_order dead rs) ≡ length rs
order_length dead rs =
    let these = filter dead rs in
    let others = filter (λ r. not (dead r)) rs in
    let whole = length-filter_both dead (λ r. not (dead r)) (λ r. refl) rs in
    let sum = length-append (map unspilled these) (map spilled others) in
    let left = length-map these unspilled in
    let right = length-map others spilled in
    omega (arith, whole, sum, left, right)

-- a candidate, which is dead where it isn't spilled
abbrev pub IsGood : (ℕ → Bool) → List ℕ → Scratch → Type 0
IsGood dead rs x = Contains rs x.register × (x.spilled ≡ false → dead x.register ≡ true)

good_kept : (dead : ℕ → Bool) (rs others : List ℕ)
    → ((r : ℕ) → Contains others r → Contains rs r) → (k : ℕ) → k < length (map spilled others)
    → IsGood dead rs (slice_index_or (map spilled others) k no_scratch)
good_kept dead rs [] there k lt = absurd (omega (arith, lt))
good_kept dead rs (q ∷ qs) there zero lt = (there q (0, omega arith, refl), λ h. cc)
good_kept dead rs (q ∷ qs) there (suc k) lt =
    good_kept dead rs qs (λ r h. there r (behind q r qs h)) k (omega (arith, lt))

good : (dead : ℕ → Bool) (rs these others : List ℕ)
    → ((r : ℕ) → Contains these r → Contains rs r × (dead r ≡ true))
    → ((r : ℕ) → Contains others r → Contains rs r)
    → (k : ℕ) → k < length (map unspilled these ++ map spilled others)
    → IsGood dead rs (slice_index_or (map unspilled these ++ map spilled others) k no_scratch)
good dead rs [] others there other k lt = good_kept dead rs others other k lt
good dead rs (q ∷ qs) others there other zero lt =
    let h = there q (0, omega arith, refl) in (h.0, λ e. h.1)
good dead rs (q ∷ qs) others there other (suc k) lt =
    good dead rs qs others (λ r h. there r (behind q r qs h)) other k (omega (arith, lt))

pub each_good : (dead : ℕ → Bool) (rs : List ℕ) (k : ℕ) → k < length (in_order dead rs)
    → IsGood dead rs (slice_index_or (in_order dead rs) k no_scratch)
each_good dead rs k lt =
    good dead rs (filter dead rs) (filter (λ r. not (dead r)) rs)
    (λ r h. (was_there dead rs r h, passed dead rs r h))
    (λ r h. was_there (λ q. not (dead q)) rs r h) k lt

-- numbers that rise, from this one on
pub Rises : ℕ → List ℕ → Type 0
Rises low [] = Unit {0}
Rises low (x ∷ xs) = (low ≤ x) × Rises (x + 1) xs

rises_lower : (low high : ℕ) (xs : List ℕ) → low ≤ high → Rises high xs → Rises low xs
unfolding Rises
rises_lower low high [] le h = tt
rises_lower low high (x ∷ xs) le h = (let g = h.0 in omega (arith, le, g), h.1)

pub rises_filter : (p : ℕ → Bool) (low : ℕ) (xs : List ℕ) → Rises low xs → Rises low (filter p xs)
unfolding Rises
rises_filter p low [] h = tt
rises_filter p low (x ∷ xs) h = go h.0 (rises_filter p (x + 1) xs h.1) (p x)
  where
    go : low ≤ x → Rises (x + 1) (filter p xs) → (b : Bool)
        → Rises low (cond b (x ∷ filter p xs) (filter p xs))
    go le more true = (le, more)
    go le more false = rises_lower low (x + 1) (filter p xs) (omega (arith, le)) more

pub rises_range : (low a n : ℕ) → low ≤ a → Rises low (range_with_len a n)
unfolding Rises
rises_range low a zero le = tt
rises_range low a (suc n) le = (le, rises_range (a + 1) (a + 1) n (omega arith))

not_below : (low r : ℕ) (xs : List ℕ) → Rises low xs → Contains xs r → low ≤ r
unfolding Rises
not_below low r [] h c = absurd (no_element r c)
not_below low r (x ∷ xs) h c = elim (first_or x r xs c) [
  | inl is ↦ (let le = h.0 in omega (arith, le, is))
  | inr rest ↦ (let le = h.0 in let more = not_below (x + 1) r xs h.1 rest in omega (arith, le, more))
]

rises_rest : (low x : ℕ) (xs : List ℕ) → Rises low (x ∷ xs) → Rises (x + 1) xs
unfolding Rises
rises_rest low x xs h = h.1

-- each place in the order has one of these or one of the others
of_others : (others : List ℕ) (k : ℕ) → k < length (map spilled others)
    → Contains others (slice_index_or (map spilled others) k no_scratch).register
of_others [] k lt = absurd (omega (arith, lt))
of_others (r ∷ rs) zero lt = (0, omega arith, refl)
of_others (r ∷ rs) (suc k) lt =
    behind r (slice_index_or (map spilled rs) k no_scratch).register rs
    (of_others rs k (omega (arith, lt)))

of_either : (these others : List ℕ) (k : ℕ) → k < length (map unspilled these ++ map spilled others)
    → Contains these
    (slice_index_or (map unspilled these ++ map spilled others) k no_scratch).register
    ⊎ Contains others
    (slice_index_or (map unspilled these ++ map spilled others) k no_scratch).register
of_either [] others k lt = inr (of_others others k lt)
of_either (r ∷ rs) others zero lt = inl (0, omega arith, refl)
of_either (r ∷ rs) others (suc k) lt = elim (of_either rs others k (omega (arith, lt))) [
  | inl c ↦ inl (behind r
      (slice_index_or (map unspilled rs ++ map spilled others) k no_scratch).register rs c)
  | inr c ↦ inr c
]

others_apart : (low : ℕ) (others : List ℕ) → Rises low others
    → (j k : ℕ) → j < k → k < length (map spilled others)
    → (slice_index_or (map spilled others) j no_scratch).register
    ≢ (slice_index_or (map spilled others) k no_scratch).register
others_apart low [] up j k lt le = absurd (omega (arith, le))
others_apart low (r ∷ rs) up zero zero lt le = absurd (omega (arith, lt))
others_apart low (r ∷ rs) up zero (suc k) lt le = λ e.
    let x = (slice_index_or (map spilled rs) k no_scratch).register in
    let same : r ≡ x = e in
    let above : r + 1 ≤ x =
    not_below (r + 1) x rs (rises_rest low r rs up) (of_others rs k (omega (arith, le))) in
    omega (arith, same, above)
others_apart low (r ∷ rs) up (suc j) zero lt le = absurd (omega (arith, lt))
others_apart low (r ∷ rs) up (suc j) (suc k) lt le =
    others_apart (r + 1) rs (rises_rest low r rs up) j k (omega (arith, lt)) (omega (arith, le))

all_apart : (dead : ℕ → Bool) (low : ℕ) (these others : List ℕ) → Rises low these → Rises 0 others
    → ((r : ℕ) → Contains these r → dead r ≡ true)
    → ((r : ℕ) → Contains others r → not (dead r) ≡ true)
    → (j k : ℕ) → j < k → k < length (map unspilled these ++ map spilled others)
    → (slice_index_or (map unspilled these ++ map spilled others) j no_scratch).register
    ≢ (slice_index_or (map unspilled these ++ map spilled others) k no_scratch).register
all_apart dead low [] others up vp there other j k lt le = others_apart 0 others vp j k lt le
all_apart dead low (r ∷ rs) others up vp there other zero zero lt le = absurd (omega (arith, lt))
all_apart dead low (r ∷ rs) others up vp there other zero (suc k) lt le = λ e.
    let x = (slice_index_or (map unspilled rs ++ map spilled others) k no_scratch).register in
    let same : r ≡ x = e in
    elim (of_either rs others k (omega (arith, le))) [
      | inl c ↦
          let above : r + 1 ≤ x = not_below (r + 1) x rs (rises_rest low r rs up) c in
          omega (arith, same, above)
      | inr c ↦
          let this : dead r ≡ true = there r (0, omega arith, refl) in
          false≢true (ap not (sym this ∙ ap dead same) ∙ other x c)
    ]
all_apart dead low (r ∷ rs) others up vp there other (suc j) zero lt le = absurd (omega (arith, lt))
all_apart dead low (r ∷ rs) others up vp there other (suc j) (suc k) lt le =
    all_apart dead (r + 1) rs others (rises_rest low r rs up) vp
    (λ q c. there q (behind r q rs c)) other j k (omega (arith, lt)) (omega (arith, le))

-- two that are taken differ
pub order_apart : (dead : ℕ → Bool) (rs : List ℕ) → Rises 0 rs → (j k : ℕ) → j < k
    → k < length (in_order dead rs)
    → (slice_index_or (in_order dead rs) j no_scratch).register
    ≢ (slice_index_or (in_order dead rs) k no_scratch).register
order_apart dead rs up j k lt le =
    all_apart dead 0 (filter dead rs) (filter (λ r. not (dead r)) rs)
    (rises_filter dead 0 rs up) (rises_filter (λ r. not (dead r)) 0 rs up)
    (λ r c. passed dead rs r c) (λ r c. passed (λ q. not (dead q)) rs r c) j k lt le
