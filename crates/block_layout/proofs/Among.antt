-- Whether a line is in one of ascending ranges.
use Rattle.std.proofs.Common.{◌≡◌, ℕ, zero, suc, ◌+◌, ◌-◌, ◌<◌, ◌≤◌, Bool, true, false, leb, ltb, List, [], ◌∷◌, length, get_or, refl, sym, ap, ◌∙◌, subst, inl, inr, arith}
use Rattle.std.specs.Fn.{Called, ComputesKey}
use Rattle.std.specs.List.{list_any}
use Rattle.std.specs.List.Sorted.{IsNonDecreasingBy, IsPartitionPoint, IsPartitionedBy}
use Rattle.std.proofs.lemmas.Bool.{cases_lt, leb-true, and_left, and_right, and_from, le-leb, lt-ltb, le-ltb, or_left, or_right, or_from}
use Rattle.std.proofs.lemmas.List.Sorted.{IsNonDecreasingBy-from_all_adjacent, IsPartitionPoint-from_clause, IsPartitionedBy-leb}
use Rattle.std.proofs.lemmas.List.{get_or_default}
use denote.Param.Members.{Mut}
use denote.Ref.{Bor}
use Rattle.block_layout.specs.declared.ranges.Lines.{Lines}
use Rattle.block_layout.specs.Layout.{AreRanges, is_among, is_in}

pub any_at : {X : Type 0} (p : X → Bool) (xs : List X) (k : ℕ) (d : X) → k < length xs → p (get_or xs k d) ≡ true → list_any p xs ≡ true
any_at p [] k d h e = absurd (omega arith)
any_at p (x ∷ xs) zero d h e = or_left (p x) (list_any p xs) e
any_at p (x ∷ xs) (suc k) d h e = or_right (p x) (list_any p xs) (any_at p xs k d (omega arith) e)

pub any_none : {X : Type 0} (p : X → Bool) (xs : List X) → ((k : ℕ) (d : X) → k < length xs → p (get_or xs k d) ≡ false) → list_any p xs ≡ false
any_none p [] h = refl
any_none p (x ∷ xs) h = or_from (p x) (list_any p xs) (h 0 x (omega arith)) (any_none p xs (λ k d less. h (suc k) d (omega arith)))

firsts_rise : (rs : List Lines) → AreRanges rs → IsNonDecreasingBy (λ r. r.first) rs
firsts_rise rs h = IsNonDecreasingBy-from_all_adjacent (λ (r : Lines). r.first) rs (λ k d within. omega (arith, h.ascending k (k + 1) d (omega arith) within))

-- the point where the ranges' first lines pass a line
pub record IsPoint (rs : List Lines) (line i : ℕ) : Type 0 where
  pub within : i ≤ length rs
  pub point : IsPartitionPoint (λ r. leb r.first line ≡ true) (λ r. leb r.first line ≡ false) rs i

behind_lacks : (rs : List Lines) (line i k : ℕ) (d : Lines) → IsPoint rs line i → i ≤ k → k < length rs → is_among line (get_or rs k d) ≡ false
behind_lacks rs line i k d h from within = and_left _ _ (h.point.1 k d from within)

pub none_among : (rs : List Lines) (line : ℕ) → IsPoint rs line 0 → is_in rs line ≡ false
none_among rs line h = any_none (is_among line) rs (λ k d within. behind_lacks rs line 0 k d h (omega arith) within)

pub one_among : (rs : List Lines) (line i : ℕ) (d : Lines) → AreRanges rs → IsPoint rs line i → 0 < i → ((get_or rs (i - 1) d).first ≤ line) × (ltb (line - (get_or rs (i - 1) d).first) (get_or rs (i - 1) d).lines ≡ is_in rs line)
one_among rs line i d ranges h some = (low, answer)
  where
    r : Lines
    r = get_or rs (i - 1) d

    last : i - 1 < length rs
    last = omega (arith, h.within)

    low : r.first ≤ line
    low = leb-true _ _ (h.point.0 (i - 1) d (omega arith) (omega arith))

    before : (k : ℕ) (e : Lines) → k < i - 1 → is_among line (get_or rs k e) ≡ false
    before k e less =
        let a : (get_or rs k e).first + (get_or rs k e).lines ≤ (get_or rs (i - 1) e).first = ranges.ascending k (i - 1) e less last in
        let b : (get_or rs (i - 1) e).first ≤ line = leb-true _ _ (h.point.0 (i - 1) e (omega arith) (omega arith)) in
        and_right (leb (get_or rs k e).first line) (ltb line ((get_or rs k e).first + (get_or rs k e).lines)) (le-ltb line _ (omega arith))

    answer : ltb (line - r.first) r.lines ≡ is_in rs line
    answer = elim (cases_lt (line - r.first) r.lines) [
      | inl within ↦
          let y : is_among line r ≡ true = and_from (leb r.first line) (ltb line (r.first + r.lines)) (le-leb _ _ low) (lt-ltb _ _ (omega (arith, low))) in
          lt-ltb (line - r.first) r.lines within ∙ sym (any_at (is_among line) rs (i - 1) d last y)
      | inr past ↦
          le-ltb (line - r.first) r.lines past
          ∙ sym (any_none (is_among line) rs (λ k e within.
          elim (cases_lt k (i - 1)) [
            | inl less ↦ before k e less
            | inr more ↦ elim (cases_lt k i) [
              | inl here ↦
                  let same : k ≡ i - 1 = omega arith in
                  let z : get_or rs k e ≡ get_or rs (i - 1) e = ap (λ n. get_or rs n e) same in
                  let w : get_or rs (i - 1) e ≡ r = get_or_default rs (i - 1) e d last in
                  let P : Lines → Type 0 = λ q. is_among line q ≡ false in
                  subst P (sym (z ∙ w)) (and_right (leb r.first line) (ltb line (r.first + r.lines)) (le-ltb line _ (omega (arith, low))))
              | inr behind ↦ behind_lacks rs line i k e h behind within
            ]
          ]))
    ]

pub point_found : {F : Type 0} {g : Mut F (Bor Lines × Unit {0}) Bool} {f : F} (rs ys xs : List Lines) (line i : ℕ) → AreRanges ys → ys ≡ rs → xs ≡ ys → i ≤ length xs → ((q : Lines → Bool) → ComputesKey g q f → IsPartitionedBy q xs → IsPartitionPoint (λ y. q y ≡ true) (λ y. q y ≡ false) xs i) → ((a : Bor Lines × Unit {0}) (r : Bool) (f' : F) → Called g f a r f' → (r ≡ leb a.0.now.first line) × (f' ≡ f)) → AreRanges rs × IsPoint rs line i
point_found rs ys xs line i is view equal within clause calls =
    let same : xs ≡ rs = equal ∙ view in
    let ranges : AreRanges rs = subst AreRanges view is in
    let Q : List Lines → Type 0 = λ ys. IsPartitionPoint (λ r. leb r.first line ≡ true) (λ r. leb r.first line ≡ false) ys i in
    let R : List Lines → Type 0 = λ ys. IsNonDecreasingBy (λ r. r.first) ys in
    let rise : IsNonDecreasingBy (λ r. r.first) xs = subst R (sym same) (firsts_rise rs ranges) in
    let point = IsPartitionPoint-from_clause (λ (r : Lines). leb r.first line) xs i clause (IsPartitionedBy-leb (λ (r : Lines). r.first) xs line rise) calls in
    (ranges, record { within = omega (arith, ap length same); point = subst Q same point })
