-- The lines of a block are shared, of one range, and cut alike.
use Rattle.std.proofs.Common.{◌≡◌, ℕ, suc, ◌+◌, ◌*◌, ◌/◌, ◌%◌, ◌<◌, ◌≤◌, Bool, true, ◌&&◌, leb, ltb, eqb, List, [], ◌∷◌, length, get_or, Option, Some, None, refl, sym, ap, ◌∙◌, subst, inl, inr, arith}
use Rattle.std.specs.List.{find, AllPairs}
use Rattle.std.proofs.lemmas.Bool.{cases_Bool, false≢true, and_parts, and_from, leb-true, ltb-true, eqb-true, le-leb, lt-ltb}
use Rattle.std.proofs.lemmas.Bool.Decides.{nat_tests}
use Rattle.std.proofs.lemmas.Nat.{div-add-mod'}
use Rattle.block_layout.specs.declared.layout.BlockRange.{BlockRange}
use Rattle.block_layout.specs.declared.ranges.Lines.{Lines}
use Rattle.block_layout.specs.Layout.{Shape, IsValid, IsRange, AreApart, is_shared, is_in, names, range_of, lines_in, size_at, first_at, is_block_size}
use Rattle.block_layout.proofs.Cuts.{cut, cut_le, cut_above, cut_same, cut_floor, cut_ceiling, cut_one}

pub record IsFound {X : Type 0} (p : X → Bool) (xs : List X) (r : X) : Type 0 where
  pub place : ℕ
  pub within : place < length xs
  pub is : get_or xs place r ≡ r
  pub passes : p r ≡ true

pub find_found : {X : Type 0} (p : X → Bool) (xs : List X) (r : X) → find p xs ≡ Some r → IsFound p xs r
find_found p [] r h = absurd (cc)
find_found p (x ∷ xs) r h = elim (cases_Bool (p x)) [
  | inl y ↦
      let t = rw y at h in
      let same : x ≡ r = cc in
      record { place = 0; within = omega arith; is = same; passes = ap p (sym same) ∙ y }
  | inr n ↦
      let t = find_found p xs r (rw n at h) in
      record { place = suc t.place; within = omega (arith, t.within); is = t.is; passes = t.passes }
]

pub pairs_rest : {X : Type 0} (R : X → X → Type 0) (x : X) (xs : List X) → AllPairs R (x ∷ xs) → AllPairs R xs
pairs_rest R x xs h = λ i j d a b. h (suc i) (suc j) d (omega arith) (omega arith)

-- two lines of one range are found in it
find_same : (x line : ℕ) (rs : List BlockRange) (r : BlockRange) → AllPairs AreApart rs → find (names line) rs ≡ Some r → names x r ≡ true → find (names x) rs ≡ Some r
find_same x line [] r pairs h has = absurd (cc)
find_same x line (q ∷ rs) r pairs h has = elim (cases_Bool (names line q)) [
  | inl y ↦
      let t = rw y at h in
      let same : q ≡ r = cc in
      let here : names x q ≡ true = ap (names x) same ∙ has in
      rw here (ap Some same)
  | inr n ↦
      let t : find (names line) rs ≡ Some r = rw n at h in
      let f : IsFound (names line) rs r = find_found (names line) rs r t in
      let P : BlockRange → Type 0 = λ z. AreApart q z in
      let apart : AreApart q r = subst P f.is (pairs 0 (suc f.place) r (omega arith) (omega (arith, f.within))) in
      elim (cases_Bool (names x q)) [
        | inl m ↦ absurd (false≢true (sym (apart x m) ∙ has))
        | inr m ↦ rw m (find_same x line rs r (pairs_rest AreApart q rs pairs) t has)
      ]
]

pub size_whole : (n : ℕ) → is_block_size n ≡ true → n / 64 * 64 ≡ n
size_whole n h = grind (arith, nat_tests)

size_some : (n : ℕ) → is_block_size n ≡ true → 0 < n / 64
size_some n h = grind (arith, nat_tests)

size_few : (n : ℕ) → is_block_size n ≡ true → n / 64 ≤ 64
size_few n h = grind (arith, nat_tests)

pub multiple : (n k : ℕ) → n % (k * 64) ≡ 0 → n ≡ 64 * (n / (k * 64) * k)
multiple n k e = omega (arith, div-add-mod' n (k * 64))

-- a block of a range has no line that the range lacks
range_whole : (shared : List Lines) (nodes : ℕ) (r : BlockRange) (line x : ℕ) → IsRange shared nodes r → names line r ≡ true → cut (r.block / 64) line ≤ x → x < cut (r.block / 64) line + r.block / 64 → names x r ≡ true
range_whole shared nodes r line x h has from to =
    let k = r.block / 64 in
    let size : k * 64 ≡ r.block = size_whole r.block h.size in
    let some : 0 < k = size_some r.block h.size in
    let whole : (ltb 0 r.length ≡ true) × ((eqb (r.start % r.block) 0 && eqb (r.length % r.block) 0) ≡ true) = and_parts _ _ h.whole in
    let parts : (eqb (r.start % r.block) 0 ≡ true) × (eqb (r.length % r.block) 0 ≡ true) = and_parts _ _ whole.1 in
    let a = r.start / (k * 64) in
    let c = r.length / (k * 64) in
    let at : r.start ≡ 64 * (a * k) = multiple r.start k (ap (λ n. r.start % n) size ∙ eqb-true _ _ parts.0) in
    let long : r.length ≡ 64 * (c * k) = multiple r.length k (ap (λ n. r.length % n) size ∙ eqb-true _ _ parts.1) in
    let bounds : (leb r.start (64 * line) ≡ true) × (ltb (64 * line) (r.start + r.length) ≡ true) = and_parts _ _ has in
    let low : r.start ≤ 64 * line = leb-true _ _ bounds.0 in
    let high : 64 * line < r.start + r.length = ltb-true _ _ bounds.1 in
    let floor : a * k ≤ cut k line = cut_floor k line a some (omega arith) in
    let ceiling : cut k line + k ≤ (a + c) * k = cut_ceiling k line (a + c) some (omega arith) in
    and_from (leb r.start (64 * x)) (ltb (64 * x) (r.start + r.length)) (le-leb r.start (64 * x) (omega arith)) (lt-ltb (64 * x) (r.start + r.length) (omega arith))

-- what is known of the block of a line
pub record IsCut (s : Shape) (line : ℕ) : Type 0 where
  pub some : 0 < size_at s line
  pub few : size_at s line ≤ 64
  pub shared : (x : ℕ) → first_at s line ≤ x → x < first_at s line + size_at s line → is_shared s x ≡ true
  pub range : (x : ℕ) → first_at s line ≤ x → x < first_at s line + size_at s line → range_of s x ≡ range_of s line

pub size_of : (s : Shape) (line : ℕ) (o : Option BlockRange) → range_of s line ≡ o → size_at s line ≡ lines_in o
unfolding size_at
size_of s line o e = ap lines_in e

pub first_of : (s : Shape) (line : ℕ) → first_at s line ≡ cut (size_at s line) line
unfolding first_at
first_of s line = refl

cut_alone : (s : Shape) (line : ℕ) → is_shared s line ≡ true → range_of s line ≡ None → IsCut s line
cut_alone s line h e =
    let size : size_at s line ≡ 1 = size_of s line None e in
    let first : first_at s line ≡ line = first_of s line ∙ ap (λ k. cut k line) size ∙ cut_one line in
    let same : (x : ℕ) → first_at s line ≤ x → x < first_at s line + size_at s line → line ≡ x = λ x a b. omega arith in
    record {
      some = omega arith;
      few = omega arith;
      shared = λ x a b. let P : ℕ → Type 0 = λ y. is_shared s y ≡ true in subst P (same x a b) h;
      range = λ x a b. ap (range_of s) (sym (same x a b));
    }

shared_in : (s : Shape) (line : ℕ) → is_in s.shared line ≡ true → is_shared s line ≡ true
unfolding is_shared
shared_in s line h = h

cut_named : (s : Shape) (line : ℕ) (r : BlockRange) → IsValid s → range_of s line ≡ Some r → IsCut s line
cut_named s line r v e =
    let size : size_at s line ≡ r.block / 64 = size_of s line (Some r) e in
    let first : first_at s line ≡ cut (r.block / 64) line = first_of s line ∙ ap (λ k. cut k line) size in
    let f : IsFound (names line) s.named r = find_found (names line) s.named r e in
    let P : BlockRange → Type 0 = λ z. IsRange s.shared s.nodes z in
    let is : IsRange s.shared s.nodes r = subst P f.is (v.named f.place r f.within) in
    let has : (x : ℕ) → first_at s line ≤ x → x < first_at s line + size_at s line → names x r ≡ true =
    λ x a b. range_whole s.shared s.nodes r line x is f.passes (omega arith) (omega arith) in
    record {
      some = omega (arith, size_some r.block is.size);
      few = omega (arith, size_few r.block is.size);
      shared = λ x a b. shared_in s x (is.lines x (has x a b));
      range = λ x a b. find_same x line s.named r v.apart e (has x a b) ∙ sym e;
    }

cut_by : (s : Shape) (line : ℕ) (o : Option BlockRange) → IsValid s → is_shared s line ≡ true → range_of s line ≡ o → IsCut s line
cut_by s line None v h e = cut_alone s line h e
cut_by s line (Some r) v h e = cut_named s line r v e

pub is_cut : (s : Shape) (line : ℕ) → IsValid s → is_shared s line ≡ true → IsCut s line
is_cut s line v h = cut_by s line (range_of s line) v h refl

-- the block of a line has the line
pub first_le : (s : Shape) (line : ℕ) → first_at s line ≤ line
first_le s line = omega (arith, first_of s line, cut_le (size_at s line) line)

pub line_within : (s : Shape) (line : ℕ) → IsCut s line → line < first_at s line + size_at s line
line_within s line c = omega (arith, first_of s line, cut_above (size_at s line) line c.some)

-- the lines of a block have its size and its first line
pub same_size : (s : Shape) (line x : ℕ) → IsCut s line → first_at s line ≤ x → x < first_at s line + size_at s line → size_at s x ≡ size_at s line
same_size s line x c a b = size_of s x (range_of s line) (c.range x a b) ∙ sym (size_of s line (range_of s line) refl)

pub same_first : (s : Shape) (line x : ℕ) → IsCut s line → first_at s line ≤ x → x < first_at s line + size_at s line → first_at s x ≡ first_at s line
same_first s line x c a b =
    first_of s x
    ∙ ap (λ k. cut k x) (same_size s line x c a b)
    ∙ cut_same (size_at s line) line x c.some (omega (arith, first_of s line)) (omega (arith, first_of s line))
    ∙ sym (first_of s line)
