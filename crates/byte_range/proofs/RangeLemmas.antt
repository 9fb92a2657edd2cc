-- A load and a store at the place of an address are those of the address.
use Rattle.std.proofs.Common.{◌≡◌, ℕ, ◌+◌, ◌-◌, ◌*◌, ◌/◌, ◌%◌, ◌^◌, ◌<◌, ◌≤◌, ◌⊎◌, true, false, leb, ltb, List, length, refl, sym, ap, ◌∙◌, arith, inl, inr}
use Rattle.std.specs.Prelude.{slice_index}
use Rattle.std.proofs.Math.Path.{fun_ext}
use Rattle.std.proofs.lemmas.Bool.Decides.{leb_tells, nat_tests}
use Rattle.rv32_decode.specs.declared.Width.{Width}
use Rattle.rv32_decode.specs.declared.Width.TheVariants.{Byte, Half, Word}
use Rattle.rv32_decode.specs.Widths.{size_of}
use Rattle.byte_range.specs.Memory.{raw, stored}
use Rattle.byte_range.specs.Range.{Range, memory_of}
use Rattle.byte_range.proofs.ByteLemmas.{stored_in, stored_off, out_or_in}

pub ltb_tells : (a b : ℕ) → ((ltb a b ≡ true) × (a < b)) ⊎ ((ltb a b ≡ false) × (b ≤ a))
ltb_tells a b = elim (leb_tells b a) [
  | inl l ↦ (let t : ltb a b ≡ false = grind (arith, nat_tests) in inr (t, l.1))
  | inr l ↦ (let t : ltb a b ≡ true = grind (arith, nat_tests) in inl (t, l.1))
]

-- a byte of the memory, by its place in the range
pub memory_of-inside : (r : Range) (outside : ℕ → ℕ) (a : ℕ) → r.base ≤ a → a < r.base + length r.bytes → slice_index r.bytes (a - r.base) ≡ memory_of r outside a
unfolding memory_of
memory_of-inside r outside a low high =
    let l : leb r.base a ≡ true = grind (arith, nat_tests) in
    let h : ltb a (r.base + length r.bytes) ≡ true = grind (arith, nat_tests) in
    rw (l, h) refl

memory_of-outside : (r : Range) (outside : ℕ → ℕ) (a : ℕ) → (a < r.base) ⊎ (r.base + length r.bytes ≤ a) → memory_of r outside a ≡ outside a
unfolding memory_of
memory_of-outside r outside a (inl low) = let l : leb r.base a ≡ false = grind (arith, nat_tests) in rw l refl
memory_of-outside r outside a (inr high) =
    let l : leb r.base a ≡ true = grind (arith, nat_tests) in
    let h : ltb a (r.base + length r.bytes) ≡ false = grind (arith, nat_tests) in
    rw (l, h) refl

-- each byte of a memory that is the range is small, where that outside of it is
pub memory_of-small : (r : Range) (outside : ℕ → ℕ) (a : ℕ) → ((k : ℕ) → slice_index r.bytes k < 2 ^ 8) → outside a < 2 ^ 8 → memory_of r outside a < 2 ^ 8
memory_of-small r outside a each low = elim (leb_tells r.base a) [
  | inr below ↦ rw (memory_of-outside r outside a (inl below.1)) low
  | inl from ↦
      elim (ltb_tells a (r.base + length r.bytes)) [
        | inl within ↦ rw (← memory_of-inside r outside a from.1 within.1) (each (a - r.base))
        | inr past ↦ rw (memory_of-outside r outside a (inr past.1)) low
      ]
]

-- the byte so many places on
memory_of-more : (r : Range) (outside : ℕ → ℕ) (a k n : ℕ) → r.base ≤ a → a + n ≤ r.base + length r.bytes → k < n → slice_index r.bytes (a - r.base + k) ≡ memory_of r outside (a + k)
memory_of-more r outside a k n low high below =
    let j : a - r.base + k ≡ a + k - r.base = omega arith in
    rw j (memory_of-inside r outside (a + k) (omega arith) (omega arith))

-- a load at the place of an address
pub raw_is : (r : Range) (outside : ℕ → ℕ) (w : Width) (a : ℕ) → r.base ≤ a → a + size_of w ≤ r.base + length r.bytes → raw w (slice_index r.bytes) (a - r.base) ≡ raw w (memory_of r outside) a
unfolding raw
raw_is r outside Byte a low high = memory_of-inside r outside a low (omega (arith, high))
raw_is r outside Half a low high =
    let p = memory_of-inside r outside a low (omega (arith, high)) in
    let q = memory_of-more r outside a 1 2 low high (omega arith) in
    omega (arith, p, q)
raw_is r outside Word a low high =
    let p = memory_of-inside r outside a low (omega (arith, high)) in
    let q = memory_of-more r outside a 1 4 low high (omega arith) in
    let t = memory_of-more r outside a 2 4 low high (omega arith) in
    let u = memory_of-more r outside a 3 4 low high (omega arith) in
    omega (arith, p, q, t, u)

abbrev pub with_bytes : Range → List ℕ → Range
with_bytes r bytes = record r { bytes = bytes }

-- a store at the place of an address
pub stored_is : (r : Range) (outside : ℕ → ℕ) (w : Width) (bytes : List ℕ) (a v : ℕ) → r.base ≤ a → a + size_of w ≤ r.base + length r.bytes → length bytes ≡ length r.bytes → slice_index bytes ≡ stored w (slice_index r.bytes) (a - r.base) v → memory_of (with_bytes r bytes) outside ≡ stored w (memory_of r outside) a v
stored_is r outside w bytes a v low high len is = fun_ext (λ x. go x (out_or_in a x (size_of w)) (out_or_in r.base x (length r.bytes)))
  where
    at : (i : ℕ) → slice_index bytes i ≡ stored w (slice_index r.bytes) (a - r.base) v i
    at i = ap (λ (f : ℕ → ℕ). f i) is

    go : (x : ℕ) → ((x < a) ⊎ (a + size_of w ≤ x)) ⊎ ((a ≤ x) × (x < a + size_of w)) → ((x < r.base) ⊎ (r.base + length r.bytes ≤ x)) ⊎ ((r.base ≤ x) × (x < r.base + length r.bytes)) → memory_of (with_bytes r bytes) outside x ≡ stored w (memory_of r outside) a v x
    go x (inr y) (inr on) =
        let j : x - r.base - (a - r.base) ≡ x - a = omega (arith, y.0, y.1, on.0) in
        sym (memory_of-inside (with_bytes r bytes) outside x on.0 (omega (arith, on.1, len)))
        ∙ at (x - r.base)
        ∙ stored_in w (slice_index r.bytes) (a - r.base) v (x - r.base) (omega (arith, y.0)) (omega (arith, y.1, on.0, low))
        ∙ ap (λ k. v / 2 ^ (8 * k) % 2 ^ 8) j
        ∙ sym (stored_in w (memory_of r outside) a v x y.0 y.1)
    go x (inl out) (inr on) =
        sym (memory_of-inside (with_bytes r bytes) outside x on.0 (omega (arith, on.1, len)))
        ∙ at (x - r.base)
        ∙ stored_off w (slice_index r.bytes) (a - r.base) v (x - r.base) (elim out [ inl p ↦ inl (omega (arith, p, on.0)) | inr p ↦ inr (omega (arith, p, low)) ])
        ∙ memory_of-inside r outside x on.0 on.1
        ∙ sym (stored_off w (memory_of r outside) a v x out)
    go x (inl out) (inl off) =
        memory_of-outside (with_bytes r bytes) outside x (elim off [ inl p ↦ inl p | inr p ↦ inr (omega (arith, p, len)) ])
        ∙ sym (memory_of-outside r outside x off)
        ∙ sym (stored_off w (memory_of r outside) a v x out)
    go x (inr y) (inl off) = absurd (elim off [ inl p ↦ omega (arith, p, y.0, low) | inr p ↦ omega (arith, p, y.1, high) ])
