-- A number that some bytes of a list make, and a write of the list as a write of the function.
use Rattle.std.proofs.Common.{◌≡◌, ◌≢◌, ℕ, ◌+◌, ◌-◌, ◌*◌, ◌/◌, ◌%◌, ◌^◌, ◌<◌, ◌≤◌, ◌⊎◌, true, false, cond, ◌&&◌, eqb, leb, ltb, List, ◌++◌, length, set, take, drop, refl, sym, ap, ◌∙◌, arith, inl, inr}
use Rattle.std.specs.Prelude.{slice_index}
use Rattle.std.proofs.Math.Path.{fun_ext}
use Rattle.std.proofs.Math.Seq.{take-append_seam}
use Rattle.std.proofs.lemmas.List.{get_or-set_same, get_or-set_other, length-set}
use Rattle.std.proofs.lemmas.Bool.Decides.{eqb_tells, leb_tells, nat_tests}
use Rattle.rv32_decode.specs.declared.Width.{Width}
use Rattle.rv32_decode.specs.declared.Width.TheVariants.{Byte, Half, Word}
use Rattle.rv32_decode.specs.Widths.{size_of}
use Rattle.byte_range.specs.Memory.{raw, stored}

-- the number that was read
pub load_byte : (xs : List ℕ) (i n : ℕ) → n ≡ slice_index xs i → n ≡ raw Byte (slice_index xs) i
unfolding raw
load_byte xs i n sum = sum

pub load_half : (xs : List ℕ) (i n : ℕ) → n ≡ slice_index xs i + slice_index xs (i + 1) * 256 → n ≡ raw Half (slice_index xs) i
unfolding raw
load_half xs i n sum = omega (arith, sum)

pub load_word : (xs : List ℕ) (i n : ℕ) → n ≡ slice_index xs i + slice_index xs (i + 1) * 256 + slice_index xs (i + 2) * 65536 + slice_index xs (i + 3) * 16777216 → n ≡ raw Word (slice_index xs) i
unfolding raw
load_word xs i n sum = omega (arith, sum)

-- a byte that is written
abbrev with_byte : (ℕ → ℕ) → ℕ → ℕ → ℕ → ℕ
with_byte m a b x = cond (eqb x a) b (m x)

set_is : (xs : List ℕ) (i b : ℕ) → i < length xs → slice_index (set xs i b) ≡ with_byte (slice_index xs) i b
set_is xs i b within = fun_ext (λ x. elim (eqb_tells x i) [
  | inl q ↦ rw q.0 (rw q.1 (get_or-set_same xs i b 0 within))
  | inr q ↦ rw q.0 (get_or-set_other xs i x b 0 q.1)
])

-- the byte of a store of n bytes, so many places on
in_store : (m : ℕ → ℕ) (a n v k x b : ℕ) → x ≡ a + k → k < n → b ≡ v / 2 ^ (8 * k) % 2 ^ 8 → b ≡ cond (leb a x && ltb x (a + n)) (v / 2 ^ (8 * (x - a)) % 2 ^ 8) (m x)
in_store m a n v k x b at below is =
    let l : leb a x ≡ true = grind (arith, nat_tests) in
    let h : ltb x (a + n) ≡ true = grind (arith, nat_tests) in
    let j : x - a ≡ k = omega arith in
    rw (l, h, j) is

-- a byte elsewhere
off_store : (m : ℕ → ℕ) (a n x : ℕ) (b : ℕ) → (x < a) ⊎ (a + n ≤ x) → m x ≡ cond (leb a x && ltb x (a + n)) b (m x)
off_store m a n x b (inl low) = let l : leb a x ≡ false = grind (arith, nat_tests) in rw l refl
off_store m a n x b (inr high) =
    let l : leb a x ≡ true = grind (arith, nat_tests) in
    let h : ltb x (a + n) ≡ false = grind (arith, nat_tests) in
    rw (l, h) refl

-- where a number stands that is none of those from another one on
out_of_one : (a x : ℕ) → x ≢ a → (x < a) ⊎ (a + 1 ≤ x)
out_of_one a x none = elim (leb_tells a x) [ inl l ↦ inr (omega arith) | inr l ↦ inl l.1 ]

out_of_two : (a x : ℕ) → x ≢ a → x ≢ a + 1 → (x < a) ⊎ (a + 2 ≤ x)
out_of_two a x n0 n1 = elim (leb_tells a x) [ inl l ↦ inr (omega arith) | inr l ↦ inl l.1 ]

out_of_four : (a x : ℕ) → x ≢ a → x ≢ a + 1 → x ≢ a + 2 → x ≢ a + 3 → (x < a) ⊎ (a + 4 ≤ x)
out_of_four a x n0 n1 n2 n3 = elim (leb_tells a x) [ inl l ↦ inr (omega arith) | inr l ↦ inl l.1 ]

-- the bytes of a store, one by one
stored_byte : (m : ℕ → ℕ) (a v b : ℕ) → b ≡ v % 2 ^ 8 → with_byte m a b ≡ stored Byte m a v
unfolding stored
stored_byte m a v b is = fun_ext (λ x. elim (eqb_tells x a) [
  | inl e ↦ rw e.0 (in_store m a 1 v 0 x b (omega arith) (omega arith) (omega arith))
  | inr e ↦ rw e.0 (off_store m a 1 x _ (out_of_one a x e.1))
])

stored_half : (m : ℕ → ℕ) (a v b c : ℕ) → b ≡ v % 2 ^ 8 → c ≡ v / 2 ^ 8 % 2 ^ 8 → with_byte (with_byte m a b) (a + 1) c ≡ stored Half m a v
unfolding stored
stored_half m a v b c is_b is_c = fun_ext (λ x. elim (eqb_tells x (a + 1)) [
  | inl e ↦ rw e.0 (in_store m a 2 v 1 x c (omega arith) (omega arith) (omega arith))
  | inr e ↦ rw e.0 (elim (eqb_tells x a) [
    | inl f ↦ rw f.0 (in_store m a 2 v 0 x b (omega arith) (omega arith) (omega arith))
    | inr f ↦ rw f.0 (off_store m a 2 x _ (out_of_two a x f.1 e.1))
  ])
])

stored_word : (m : ℕ → ℕ) (a v b c d e : ℕ) → b ≡ v % 2 ^ 8 → c ≡ v / 2 ^ 8 % 2 ^ 8 → d ≡ v / 2 ^ 16 % 2 ^ 8 → e ≡ v / 2 ^ 24 % 2 ^ 8 → with_byte (with_byte (with_byte (with_byte m a b) (a + 1) c) (a + 2) d) (a + 3) e ≡ stored Word m a v
unfolding stored
stored_word m a v b c d e is_b is_c is_d is_e = fun_ext (λ x. elim (eqb_tells x (a + 3)) [
  | inl h ↦ rw h.0 (in_store m a 4 v 3 x e (omega arith) (omega arith) (omega arith))
  | inr h ↦ rw h.0 (elim (eqb_tells x (a + 2)) [
    | inl g ↦ rw g.0 (in_store m a 4 v 2 x d (omega arith) (omega arith) (omega arith))
    | inr g ↦ rw g.0 (elim (eqb_tells x (a + 1)) [
      | inl f ↦ rw f.0 (in_store m a 4 v 1 x c (omega arith) (omega arith) (omega arith))
      | inr f ↦ rw f.0 (elim (eqb_tells x a) [
        | inl k ↦ rw k.0 (in_store m a 4 v 0 x b (omega arith) (omega arith) (omega arith))
        | inr k ↦ rw k.0 (off_store m a 4 x _ (out_of_four a x k.1 f.1 g.1 h.1))
      ])
    ])
  ])
])

pub store_byte : (xs : List ℕ) (i v b : ℕ) → i + 1 ≤ length xs → b ≡ v % 2 ^ 8 → slice_index (set xs i b) ≡ stored Byte (slice_index xs) i v
store_byte xs i v b within is = set_is xs i b (omega arith) ∙ stored_byte (slice_index xs) i v b is

pub store_half : (xs : List ℕ) (i v b c : ℕ) → i + 2 ≤ length xs → b ≡ v % 2 ^ 8 → c ≡ v / 2 ^ 8 % 2 ^ 8 → slice_index (set (set xs i b) (i + 1) c) ≡ stored Half (slice_index xs) i v
store_half xs i v b c within is_b is_c =
    set_is (set xs i b) (i + 1) c (omega (arith, length-set {A = ℕ}))
    ∙ ap (λ m. with_byte m (i + 1) c) (set_is xs i b (omega arith))
    ∙ stored_half (slice_index xs) i v b c is_b is_c

pub store_word : (xs : List ℕ) (i v b c d e : ℕ) → i + 4 ≤ length xs → b ≡ v % 2 ^ 8 → c ≡ v / 2 ^ 8 % 2 ^ 8 → d ≡ v / 2 ^ 16 % 2 ^ 8 → e ≡ v / 2 ^ 24 % 2 ^ 8 → slice_index (set (set (set (set xs i b) (i + 1) c) (i + 2) d) (i + 3) e) ≡ stored Word (slice_index xs) i v
store_word xs i v b c d e within is_b is_c is_d is_e =
    let one = set xs i b in
    let two = set one (i + 1) c in
    let three = set two (i + 2) d in
    set_is three (i + 3) e (omega (arith, length-set {A = ℕ}))
    ∙ ap (λ m. with_byte m (i + 3) e) (set_is two (i + 2) d (omega (arith, length-set {A = ℕ}))
    ∙ ap (λ m. with_byte m (i + 2) d) (set_is one (i + 1) c (omega (arith, length-set {A = ℕ}))
    ∙ ap (λ m. with_byte m (i + 1) c) (set_is xs i b (omega arith))))
    ∙ stored_word (slice_index xs) i v b c d e is_b is_c is_d is_e

-- a byte of a store, and one elsewhere
pub stored_in : (w : Width) (m : ℕ → ℕ) (a v x : ℕ) → a ≤ x → x < a + size_of w → stored w m a v x ≡ v / 2 ^ (8 * (x - a)) % 2 ^ 8
unfolding stored
stored_in w m a v x low high =
    let l : leb a x ≡ true = grind (arith, nat_tests) in
    let h : ltb x (a + size_of w) ≡ true = grind (arith, nat_tests) in
    rw (l, h) refl

pub stored_off : (w : Width) (m : ℕ → ℕ) (a v x : ℕ) → (x < a) ⊎ (a + size_of w ≤ x) → stored w m a v x ≡ m x
unfolding stored
stored_off w m a v x out = sym (off_store m a (size_of w) x _ out)

-- where a number stands to the n from another one on
pub out_or_in : (a x n : ℕ) → ((x < a) ⊎ (a + n ≤ x)) ⊎ ((a ≤ x) × (x < a + n))
out_or_in a x n = elim (leb_tells a x) [
  | inr low ↦ inl (inl low.1)
  | inl low ↦ elim (leb_tells (a + n) x) [ inl high ↦ inl (inr high.1) | inr high ↦ inr (low.1, high.1) ]
]

-- a vector whose bytes were written as a slice
pub written : (ys all : List ℕ) (n : ℕ) → n ≡ length ys → length all ≡ length ys → take n (all ++ drop (length all) ys) ≡ all
written ys all n is_n len =
    let e : n ≡ length all = is_n ∙ sym len in
    rw e (take-append_seam all (drop (length all) ys))
