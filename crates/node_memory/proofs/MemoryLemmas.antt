-- Bytes of lines by their class.
use Rattle.std.proofs.Common.{◌≡◌, ℕ, ◌+◌, ◌-◌, ◌/◌, ◌%◌, ◌^◌, ◌<◌, ◌≤◌, Bool, true, false, cond, leb, ltb, Option, Some, None, refl, sym, ap, subst, ◌∙◌, arith, inl, inr}
use Rattle.std.proofs.lemmas.Bool.Decides.{eqb_tells, nat_tests}
use Rattle.std.specs.Prelude.{find, is_some}
use Rattle.elf32_read.specs.Elf.{Elf, Segment}
use Rattle.rv32_decode.specs.declared.Width.{Width}
use Rattle.rv32_decode.specs.declared.Width.TheVariants.{Byte, Half, Word}
use Rattle.rv32_decode.specs.Widths.{is_aligned}
use Rattle.exec_map.specs.rv32_program.declared.Class.{Class}
use Rattle.exec_map.specs.rv32_program.declared.Class.TheVariants.{Shared, ReadOnly, Private, Unmapped}
use Rattle.exec_map.specs.Contents.{class_of_line, first_byte, is_private, is_read_only, segment_class, is_writable, touches}
use Rattle.node_memory.specs.Shelf.{HasFixed}
use Rattle.exec_map.specs.byte_range.Memory.{raw}
use Rattle.exec_map.specs.byte_range.Window.{is_in_window}
use Rattle.node_model.specs.rv32_step.Memory.{byte_by}
use Rattle.exec_map.specs.byte_range.Lines.{LineBytes, lines_memory, place_of}
use Rattle.node_model.specs.Node.{Memory, Spill, region_of}

-- an aligned access stays in one line
pub raw_in_line : (w : Width) (class : ℕ → Class) (c : Class) (f g h i : ℕ → ℕ) (a : ℕ) → is_aligned w a ≡ true → class (a / 64) ≡ c → raw w (λ x. byte_by c (f x) (g x) (h x) (i x)) a ≡ raw w (λ x. byte_by (class (x / 64)) (f x) (g x) (h x) (i x)) a
unfolding raw
raw_in_line Byte class c f g h i a aligned is = rw is refl
raw_in_line Half class c f g h i a aligned is =
    let even : a % 2 ≡ 0 = grind (arith, nat_tests) in
    let e1 : (a + 1) / 64 ≡ a / 64 = omega arith in
    rw (e1, is) refl
raw_in_line Word class c f g h i a aligned is =
    let four : a % 4 ≡ 0 = grind (arith, nat_tests) in
    let e1 : (a + 1) / 64 ≡ a / 64 = omega arith in
    let e2 : (a + 2) / 64 ≡ a / 64 = omega arith in
    let e3 : (a + 3) / 64 ≡ a / 64 = omega arith in
    rw (e1, e2, e3, is) refl

segment_not_private : (o : Option Segment) → segment_class o ≡ Private → ⊥
segment_not_private None is = cc
segment_not_private (Some s) is = go (is_writable s) is
  where
    go : (b : Bool) → cond b Shared ReadOnly ≡ Private → ⊥
    go true is = cc
    go false is = cc

-- the private lines are those of the window
pub private_in_window : (e : Elf) (a : ℕ) → class_of_line e (a / 64) ≡ Private → is_in_window a ≡ true
private_in_window e a is = go (is_private (a / 64)) refl is
  where
    go : (b : Bool) → is_private (a / 64) ≡ b → cond b Private (segment_class (find (touches (a / 64)) e.segments)) ≡ Private → is_in_window a ≡ true
    go true test is =
        let low : 33553408 ≤ a / 64 = grind (arith, nat_tests) in
        let high : a / 64 < 33554432 = grind (arith, nat_tests) in
        let t1 : leb 2147418112 a ≡ true = grind (arith, nat_tests) in
        let t2 : ltb a 2147483648 ≡ true = grind (arith, nat_tests) in
        rw (t1, t2) refl
    go false test is = absurd (segment_not_private (find (touches (a / 64)) e.segments) is)

pub window_is_private : (e : Elf) (a : ℕ) → is_in_window a ≡ true → class_of_line e (a / 64) ≡ Private
window_is_private e a is =
    let low : 2147418112 ≤ a = grind (arith, nat_tests) in
    let high : a < 2147483648 = grind (arith, nat_tests) in
    let t1 : leb 33553408 (a / 64) ≡ true = grind (arith, nat_tests) in
    let t2 : ltb (a / 64) 33554432 ≡ true = grind (arith, nat_tests) in
    rw (t1, t2) refl

pub in_window : (b : Bool) (n x : ℕ) → Some n ≡ cond b (Some x) None → (b ≡ true) × (n ≡ x)
in_window true n x is = (refl, cc)
in_window false n x is = absurd (cc)

pub not_in_window : (b : Bool) (x : ℕ) → None ≡ cond b (Some x) None → b ≡ false
not_in_window true x is = absurd (cc)
not_in_window false x is = refl

pub unmapped : (k : Class) → (k ≡ Shared → ⊥) → (k ≡ ReadOnly → ⊥) → (k ≡ Private → ⊥) → k ≡ Unmapped
unmapped Shared s r p = absurd (s refl)
unmapped ReadOnly s r p = absurd (r refl)
unmapped Private s r p = absurd (p refl)
unmapped Unmapped s r p = refl

pub memory_region : (a : ℕ) → a < 2 ^ 31 → region_of a ≡ Memory
memory_region a below = let t : ltb a 2147483648 ≡ true = grind (arith, nat_tests) in rw t refl

-- the words that registers are kept in are the three highest
pub spill_region : (a k : ℕ) → 2 ^ 32 - 12 ≤ a → a < 2 ^ 32 → k ≡ (2 ^ 32 - 1 - a) / 4 → is_aligned Word a ≡ true → region_of a ≡ Spill k
spill_region a k high low is aligned =
    let four : a % 4 ≡ 0 = grind (arith, nat_tests) in
    elim (eqb_tells a (2 ^ 32 - 4)) [
      | inl e ↦ let at : k ≡ 0 = omega (arith, e.1) in rw (e.1, at) refl
      | inr n ↦ elim (eqb_tells a (2 ^ 32 - 8)) [
        | inl e ↦ let at : k ≡ 1 = omega (arith, e.1) in rw (e.1, at) refl
        | inr m ↦ let last : a ≡ 2 ^ 32 - 12 = omega (arith, n.1, m.1, four) in let at : k ≡ 2 = omega (arith, last) in rw (last, at) refl
      ]
    ]

read_only_tells : (c : Class) → is_read_only c ≡ true → c ≡ ReadOnly
read_only_tells Shared e = cc
read_only_tells ReadOnly e = refl
read_only_tells Private e = cc
read_only_tells Unmapped e = cc

-- a line that has a place is read-only, and one that has none isn't
pub fixed_place : (e : Elf) (m : LineBytes) (line : ℕ) → HasFixed e m → is_some (place_of m.ranges line) ≡ true → class_of_line e line ≡ ReadOnly
fixed_place e m line fixed there = read_only_tells (class_of_line e line) (sym (fixed.lines line) ∙ there)

-- each byte of a read-only line is small where each of the bytes that are kept of these lines is
pub fixed_small : (e : Elf) (m : LineBytes) (a : ℕ) → HasFixed e m
    → ((outside : ℕ → ℕ) (x : ℕ) → is_some (place_of m.ranges (x / 64)) ≡ true → lines_memory m outside x < 2 ^ 8)
    → class_of_line e (a / 64) ≡ ReadOnly → first_byte e a < 2 ^ 8
fixed_small e m a fixed small is =
    subst (λ (f : ℕ → ℕ). f a < 2 ^ 8) fixed.bytes (small (first_byte e) a (fixed.lines (a / 64) ∙ ap is_read_only is))

-- the lines of the window are private, and no others
pub private_line : (e : Elf) (line : ℕ) → is_private line ≡ true → class_of_line e line ≡ Private
private_line e line is = rw is refl

pub not_window : (e : Elf) (line : ℕ) → is_private line ≡ false → class_of_line e line ≡ Private → ⊥
not_window e line out is = segment_not_private (find (touches line) e.segments) (rw out at is)
