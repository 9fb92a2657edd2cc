-- The first contents of a copy, written byte by byte.
use Rattle.std.proofs.Common.{◌≡◌, ◌≢◌, ℕ, ◌+◌, ◌-◌, ◌*◌, ◌/◌, ◌<◌, ◌≤◌, ◌⊎◌, true, false, Bool, cond, ◌&&◌, leb, ltb, List, [], ◌∷◌, ◌++◌, length, take, get_or, set, refl, sym, ap, ◌∙◌, subst, arith, inl, inr, suc}
use Rattle.std.specs.Prelude.{slice_index}
use Rattle.std.proofs.lemmas.List.{get_or-set_same, get_or-set_other, length-set, take_more, length-take-le, get_or-take}
use Rattle.std.proofs.lemmas.Bool.Decides.{eqb_tells, leb_tells, nat_tests}
use Rattle.block_layout.specs.Layout.{Shape, is_shared, shared_lines}
use Rattle.flag_memory.specs.Copy.{place}
use Rattle.flag_memory.specs.FirstBytes.{FirstRange, holds, first_byte, AreFirstBytes}
use Rattle.flag_memory.specs.Bytes.{IsByteWritten, IsWritten, AreWritten}
use Rattle.flag_memory.proofs.Places.{Laws, place_same}

-- one byte
pub byte_on : (s : Shape) (old : List ℕ) (a at byte : ℕ) → Laws s → is_shared s (a / 64) ≡ true → at ≡ place s a → at < length old → IsByteWritten s old (set old at byte) a byte
byte_on s old a at byte l shared is within = record {
  len = length-set old at byte;
  bytes = λ x on. elim (eqb_tells x a) [
    | inl q ↦ rw q.0 (ap (slice_index (set old at byte)) (ap (place s) q.1 ∙ sym is) ∙ get_or-set_same old at byte 0 within)
    | inr q ↦ rw q.0 (get_or-set_other old at (place s x) byte 0 (λ e. q.1 (place_same s x a l on shared (e ∙ is))))
  ];
}

pub byte_off : (s : Shape) (old : List ℕ) (a byte : ℕ) → is_shared s (a / 64) ≡ false → IsByteWritten s old old a byte
byte_off s old a byte off = record {
  len = refl;
  bytes = λ x on. elim (eqb_tells x a) [
    | inl q ↦ absurd (let e : true ≡ false = sym on ∙ ap (λ n. is_shared s (n / 64)) q.1 ∙ off in cc)
    | inr q ↦ rw q.0 refl
  ];
}

-- one byte more
range_test : (x address i : ℕ) → x ≢ address + i → ltb x (address + i) ≡ ltb x (address + (i + 1))
range_test x address i ne = grind (arith, nat_tests)

pub written_more : (s : Shape) (old cur new : List ℕ) (address i byte : ℕ) (from : List ℕ) → IsWritten s old cur address i from → byte ≡ slice_index from i → IsByteWritten s cur new (address + i) byte → IsWritten s old new address (i + 1) from
written_more s old cur new address i byte from w is b = record {
  len = b.len ∙ w.len;
  bytes = λ x on. elim (eqb_tells x (address + i)) [
    | inl q ↦
        (let l : leb address x ≡ true = grind (arith, nat_tests) in
        let h : ltb x (address + (i + 1)) ≡ true = grind (arith, nat_tests) in
        let j : x - address ≡ i = omega arith in
        rw (l, h, j) ((rw q.0 at (b.bytes x on)) ∙ is))
    | inr q ↦ (rw q.0 at (b.bytes x on)) ∙ rw (← range_test x address i q.1) (w.bytes x on)
  ];
}

pub none_written : (s : Shape) (old : List ℕ) (address : ℕ) (from : List ℕ) → IsWritten s old old address 0 from
none_written s old address from = record {
  len = refl;
  bytes = λ x on. elim (leb_tells address x) [
    | inl q ↦ (let h : ltb x (address + 0) ≡ false = grind (arith, nat_tests) in rw h (rw q.0 refl))
    | inr q ↦ rw q.0 refl
  ];
}

-- one range more
first_byte-last : (rs : List FirstRange) (r : FirstRange) (a : ℕ) (d : FirstRange) → ((j : ℕ) → j < length rs → holds a (get_or rs j d) ≡ false) → holds a r ≡ true → first_byte (rs ++ r ∷ []) a ≡ slice_index r.bytes (a - r.address)
first_byte-last [] r a d none here = rw here refl
first_byte-last (q ∷ rs) r a d none here =
    rw (none 0 (omega arith)) (first_byte-last rs r a d (λ j below. none (suc j) (omega arith)) here)

first_byte-past : (rs : List FirstRange) (r : FirstRange) (a : ℕ) → holds a r ≡ false → first_byte (rs ++ r ∷ []) a ≡ first_byte rs a
first_byte-past [] r a off = rw off refl
first_byte-past (q ∷ rs) r a off = elim (cases (holds a q)) [
  | inl t ↦ rw t refl
  | inr t ↦ rw t (first_byte-past rs r a off)
]
  where
    cases : (b : Bool) → (b ≡ true) ⊎ (b ≡ false)
    cases true = inl refl
    cases false = inr refl

past_range : (q : FirstRange) (a : ℕ) → q.address + length q.bytes ≤ a → holds a q ≡ false
past_range q a past = grind (arith, nat_tests)

low_of : (r : FirstRange) (a : ℕ) → holds a r ≡ true → r.address ≤ a
low_of r a here = grind (arith, nat_tests)

pub written_range : (s : Shape) (cur new : List ℕ) (rs : List FirstRange) (i : ℕ) (r : FirstRange) → AreFirstBytes rs → i < length rs → r ≡ get_or rs i r → AreWritten s cur (take i rs) → IsWritten s cur new r.address (length r.bytes) r.bytes → AreWritten s new (take (i + 1) rs)
written_range s cur new rs i r f within is w b =
    subst (λ (qs : List FirstRange). AreWritten s new qs) (sym (take_more rs i r within ∙ ap (λ z. take i rs ++ z ∷ []) (sym is)))
    (record { len = b.len ∙ w.len; bytes = λ x on. b.bytes x on ∙ go x on (cases (holds x r)) })
  where
    cases : (b : Bool) → (b ≡ true) ⊎ (b ≡ false)
    cases true = inl refl
    cases false = inr refl

    before : (x : ℕ) → holds x r ≡ true → (j : ℕ) → j < length (take i rs) → holds x (get_or (take i rs) j r) ≡ false
    before x here j below =
        let small : j < i = omega (arith, length-take-le i rs (omega arith)) in
        let same : get_or (take i rs) j r ≡ get_or rs j r = get_or-take i rs j r small in
        let order = f.ascending j i r small within in
        let low = low_of r x here in
        rw same (past_range (get_or rs j r) x (omega (arith, order, low, ap (λ (z : FirstRange). z.address) is)))

    go : (x : ℕ) → is_shared s (x / 64) ≡ true → (holds x r ≡ true) ⊎ (holds x r ≡ false) → cond (leb r.address x && ltb x (r.address + length r.bytes)) (slice_index r.bytes (x - r.address)) (slice_index cur (place s x)) ≡ first_byte (take i rs ++ r ∷ []) x
    go x on (inl here) = rw here (sym (first_byte-last (take i rs) r x r (before x here) here))
    go x on (inr off) = rw off (w.bytes x on ∙ sym (first_byte-past (take i rs) r x off))

-- at the start all bytes are 0
pub zeros_written : (s : Shape) (xs : List ℕ) → length xs ≡ 64 * shared_lines s → ((k : ℕ) → slice_index xs k ≡ 0) → AreWritten s xs []
zeros_written s xs len zeros = record { len = len; bytes = λ a on. zeros (place s a) }
