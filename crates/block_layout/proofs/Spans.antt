-- The lines of a range that is cut into blocks.
use Rattle.std.proofs.Common.{◌≡◌, ℕ, ◌+◌, ◌*◌, ◌/◌, ◌%◌, ◌<◌, ◌≤◌, Bool, true, false, cond, ◌&&◌, leb, ltb, eqb, List, [], ◌∷◌, ◌++◌, Some, None, refl, sym, ap, ◌∙◌, inl, inr, arith}
use Rattle.std.specs.List.{find}
use Rattle.std.proofs.lemmas.Bool.{cases_Bool, cases_lt, and_parts, and_from, leb-true, ltb-true, eqb-true, le-leb, lt-ltb}
use Rattle.std.specs.BTreeMap.{BTreeMap, get}
use Rattle.std.specs.Ordering.{nat_cmp}
use Rattle.block_layout.specs.declared.layout.BlockRange.{BlockRange}
use Rattle.block_layout.specs.Layout.{names}
use Rattle.block_layout.specs.Reading.{IsCutRange, IsNew, MapsLines}
use Rattle.block_layout.proofs.Blocks.{multiple, size_whole}

-- start and length are whole lines
record AreWhole (r : BlockRange) : Type 0 where
  pub start : r.start ≡ 64 * (r.start / 64)
  pub length : r.length ≡ 64 * (r.length / 64)

are_whole : (r : BlockRange) → IsCutRange r → AreWhole r
are_whole r h =
    let k = r.block / 64 in
    let size : k * 64 ≡ r.block = size_whole r.block h.size in
    let whole : (ltb 0 r.length ≡ true) × ((eqb (r.start % r.block) 0 && eqb (r.length % r.block) 0) ≡ true) = and_parts _ _ h.whole in
    let parts : (eqb (r.start % r.block) 0 ≡ true) × (eqb (r.length % r.block) 0 ≡ true) = and_parts _ _ whole.1 in
    let at : r.start ≡ 64 * (r.start / (k * 64) * k) = multiple r.start k (ap (λ n. r.start % n) size ∙ eqb-true _ _ parts.0) in
    let long : r.length ≡ 64 * (r.length / (k * 64) * k) = multiple r.length k (ap (λ n. r.length % n) size ∙ eqb-true _ _ parts.1) in
    record { start = omega arith; length = omega arith }

pub names_from : (r : BlockRange) (x : ℕ) → IsCutRange r → r.start / 64 ≤ x → x < r.start / 64 + r.length / 64 → names x r ≡ true
names_from r x h from to =
    let w = are_whole r h in
    and_from (leb r.start (64 * x)) (ltb (64 * x) (r.start + r.length)) (le-leb r.start (64 * x) (omega (arith, w.start))) (lt-ltb (64 * x) (r.start + r.length) (omega (arith, w.start, w.length)))

pub names_to : (r : BlockRange) (x : ℕ) → IsCutRange r → names x r ≡ true → (r.start / 64 ≤ x) × (x < r.start / 64 + r.length / 64)
names_to r x h e =
    let w = are_whole r h in
    let bounds : (leb r.start (64 * x) ≡ true) × (ltb (64 * x) (r.start + r.length) ≡ true) = and_parts _ _ e in
    let low : r.start ≤ 64 * x = leb-true _ _ bounds.0 in
    let high : 64 * x < r.start + r.length = ltb-true _ _ bounds.1 in
    (omega (arith, w.start), omega (arith, w.start, w.length))

pub names_not : (r : BlockRange) (x : ℕ) → IsCutRange r → (r.start / 64 ≤ x → x < r.start / 64 + r.length / 64 → ⊥) → names x r ≡ false
names_not r x h out = elim (cases_Bool (names x r)) [
  | inl y ↦ let t = names_to r x h y in absurd (out t.0 t.1)
  | inr n ↦ n
]

-- a search of a list with one more range
pub find_push_found : {X : Type 0} (p : X → Bool) (xs : List X) (y r : X) → find p xs ≡ Some r → find p (xs ++ y ∷ []) ≡ Some r
find_push_found p [] y r h = absurd (cc)
find_push_found p (x ∷ xs) y r h = elim (cases_Bool (p x)) [
  | inl t ↦ rw t (rw t at h)
  | inr f ↦ rw f (find_push_found p xs y r (rw f at h))
]

pub find_push_none : {X : Type 0} (p : X → Bool) (xs : List X) (y : X) → find p xs ≡ None → find p (xs ++ y ∷ []) ≡ cond (p y) (Some y) None
find_push_none p [] y h = refl
find_push_none p (x ∷ xs) y h = elim (cases_Bool (p x)) [
  | inl t ↦ let k = rw t at h in absurd (cc)
  | inr f ↦ rw f (find_push_none p xs y (rw f at h))
]

pub find_push_not : {X : Type 0} (p : X → Bool) (xs : List X) (y : X) → p y ≡ false → find p (xs ++ y ∷ []) ≡ find p xs
find_push_not p [] y h = rw h refl
find_push_not p (x ∷ xs) y h = elim (cases_Bool (p x)) [
  | inl t ↦ rw t refl
  | inr f ↦ rw f (find_push_not p xs y h)
]

-- the map while the lines of a range are put into it
pub record MapsUpTo (m : BTreeMap ℕ BlockRange) (rs : List BlockRange) (r : BlockRange) (first line : ℕ) : Type 0 where
  pub from : first ≤ line
  pub put : (x : ℕ) → first ≤ x → x < line → get nat_cmp m x ≡ Some r
  pub below : (x : ℕ) → x < first → get nat_cmp m x ≡ find (names x) rs
  pub above : (x : ℕ) → line ≤ x → get nat_cmp m x ≡ find (names x) rs

pub maps_first : (m : BTreeMap ℕ BlockRange) (rs : List BlockRange) (r : BlockRange) (first : ℕ) → MapsLines m rs → MapsUpTo m rs r first first
maps_first m rs r first h = record {
  from = omega arith;
  put = λ x a b. absurd (omega arith);
  below = λ x a. h x;
  above = λ x a. h x;
}

pub maps_all : (m : BTreeMap ℕ BlockRange) (rs : List BlockRange) (r : BlockRange) → IsCutRange r → IsNew rs r → MapsUpTo m rs r (r.start / 64) (r.start / 64 + r.length / 64) → MapsLines m (rs ++ r ∷ [])
maps_all m rs r cut new h = λ x. elim (cases_lt x (r.start / 64)) [
  | inl low ↦ h.below x low ∙ sym (find_push_not (names x) rs r (names_not r x cut (λ a b. omega arith)))
  | inr from ↦ elim (cases_lt x (r.start / 64 + r.length / 64)) [
    | inl to ↦
        let y : names x r ≡ true = names_from r x cut from to in
        h.put x from to ∙ sym (find_push_none (names x) rs r (new x y) ∙ (rw y refl))
    | inr high ↦ h.above x high ∙ sym (find_push_not (names x) rs r (names_not r x cut (λ a b. omega arith)))
  ]
]
