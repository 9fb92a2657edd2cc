-- Which rows can fit a word, by the fields that their masks cover.
use Rattle.std.proofs.Common.{◌≡◌, ℕ, ◌+◌, ◌*◌, ◌-◌, ◌/◌, ◌%◌, ◌^◌, ◌<◌, Bool, true, false, cond, eqb, List, [], ◌∷◌, refl, sym, ap, ◌∙◌, arith, inl, inr}
use Rattle.std.specs.Prelude.{bit_and, find, filter, ◌&&◌, Some}
use Rattle.std.specs.List.{list_all}
use Rattle.std.proofs.lemmas.Nat.{and_shr, and_mod, and_mask, and_block, shr_split, mod_below, pow_pos}
use Rattle.std.proofs.Math.Nat.{mod-eq_of_lt}
use Rattle.std.proofs.lemmas.Bool.{eqb-true, eq-eqb}
use Rattle.std.proofs.lemmas.Bool.Decides.{eqb_tells, nat_tests}
use Rattle.rv32_decode.specs.Fields.{field}
use Rattle.rv32_decode.specs.Rows.{Row, fits, row, opcode_row, funct3_row, funct7_row, funct5_row, word_row}
use Rattle.rv32_decode.specs.declared.Instr.{Instr}

-- the mask covers a field
abbrev pub covers : ℕ → ℕ → Row → Bool
covers low width r = eqb (field r.mask low width) (2 ^ width - 1)

-- the row's match has this number in the field
abbrev pub has : ℕ → ℕ → ℕ → Row → Bool
has low width v r = eqb (field r.match low width) v

field_and : (w mask low width : ℕ) → field (bit_and w mask) low width ≡ bit_and (field w low width) (field mask low width)
field_and w mask low width = ap (λ x. x % 2 ^ width) (and_shr w mask low) ∙ and_mod (w / 2 ^ low) (mask / 2 ^ low) width

field_whole : (w low width : ℕ) → bit_and (field w low width) (2 ^ width - 1) ≡ field w low width
field_whole w low width =
    and_mask (field w low width) width ∙ mod-eq_of_lt (mod_below (w / 2 ^ low) (2 ^ width) (pow_pos width))

-- a row that fits has the word's field, where its mask covers it
pub kept : (w mask match low width : ℕ) → field mask low width ≡ 2 ^ width - 1 → eqb (bit_and w mask) match ≡ true → field w low width ≡ field match low width
kept w mask match low width whole f =
    sym (ap (λ x. field x low width) (sym (eqb-true _ _ f)) ∙ field_and w mask low width ∙ ap (bit_and (field w low width)) whole ∙ field_whole w low width)

pub same_field : (w low width : ℕ) (r : Row) → covers low width r ≡ true → fits w r ≡ true → field w low width ≡ field r.match low width
same_field w low width r c f = kept w r.mask r.match low width (eqb-true _ _ c) f

row_off : (w low width v : ℕ) (r : Row) → covers low width r ≡ true → field w low width ≡ v → has low width v r ≡ false → fits w r ≡ false
row_off w low width v r c e h = elim (eqb_tells (bit_and w r.mask) r.match) [
  | inl f ↦
      let bad : true ≡ false = sym (eq-eqb _ _ (sym (same_field w low width r c f.0) ∙ e)) ∙ h in
      cc
  | inr f ↦ f.0
]

by_field_at : (w low width v : ℕ) (r : Row) (rs : List Row) (b : Bool) → covers low width r ≡ true → field w low width ≡ v → has low width v r ≡ b
    → find (fits w) rs ≡ find (fits w) (filter (has low width v) rs)
    → find (fits w) (r ∷ rs) ≡ find (fits w) (cond b (r ∷ filter (has low width v) rs) (filter (has low width v) rs))
by_field_at w low width v r rs true c e h more = ap (cond (fits w r) (Some r)) more
by_field_at w low width v r rs false c e h more = rw (row_off w low width v r c e h) more

pub and_parts : (a b : Bool) → (a && b) ≡ true → (a ≡ true) × (b ≡ true)
and_parts true b h = (refl, h)
and_parts false b h = cc

-- only the rows with the word's field can fit
pub by_field : (w low width v : ℕ) (rs : List Row) → list_all (covers low width) rs ≡ true → field w low width ≡ v
    → find (fits w) rs ≡ find (fits w) (filter (has low width v) rs)
by_field w low width v [] c e = refl
by_field w low width v (r ∷ rs) c e =
    let both = and_parts (covers low width r) (list_all (covers low width) rs) c in
    by_field_at w low width v r rs (has low width v r) both.0 e refl (by_field w low width v rs both.1 e)

-- opcode and funct3 apart
and_funct3 : (w : ℕ) → bit_and w 0x707f ≡ field w 12 3 * 2 ^ 12 + field w 0 7
and_funct3 w =
    let x = w % 2 ^ 12 in
    let split : w / 2 ^ 12 * 2 ^ 12 + x ≡ w = shr_split w 12 in
    let whole : bit_and (w / 2 ^ 12 * 2 ^ 12 + x) (7 * 2 ^ 12 + 0x7f) ≡ bit_and (w / 2 ^ 12) 7 * 2 ^ 12 + bit_and x 0x7f =
    and_block 12 (w / 2 ^ 12) 7 x 0x7f (omega arith) (omega arith) in
    let high = and_mask (w / 2 ^ 12) 3 in
    let low = and_mask x 7 in
    let op : x % 2 ^ 7 ≡ w / 2 ^ 0 % 2 ^ 7 = omega arith in
    ap (λ y. bit_and y 0x707f) (sym split) ∙ whole ∙ omega (arith, high, low, op)

-- opcode, funct3 and the bits from a place on
and_top : (w m : ℕ) → bit_and w (m * 2 ^ 25 + 0x707f) ≡ bit_and (w / 2 ^ 25) m * 2 ^ 25 + field w 12 3 * 2 ^ 12 + field w 0 7
and_top w m =
    let x = w % 2 ^ 25 in
    let split : w / 2 ^ 25 * 2 ^ 25 + x ≡ w = shr_split w 25 in
    let whole : bit_and (w / 2 ^ 25 * 2 ^ 25 + x) (m * 2 ^ 25 + 0x707f) ≡ bit_and (w / 2 ^ 25) m * 2 ^ 25 + bit_and x 0x707f =
    and_block 25 (w / 2 ^ 25) m x 0x707f (omega arith) (omega arith) in
    let f3 : x / 2 ^ 12 % 2 ^ 3 ≡ w / 2 ^ 12 % 2 ^ 3 = omega arith in
    let op : x / 2 ^ 0 % 2 ^ 7 ≡ w / 2 ^ 0 % 2 ^ 7 = omega arith in
    ap (λ y. bit_and y (m * 2 ^ 25 + 0x707f)) (sym split) ∙ whole ∙ omega (arith, and_funct3 x, f3, op)

-- whether a row stands for a word of its opcode, by the other fields
pub opcode_fits : (w op : ℕ) (g : ℕ → Instr) → field w 0 7 ≡ op → fits w (opcode_row op g) ≡ true
opcode_fits w op g a = let e = and_mask w 7 in eq-eqb _ _ (omega (arith, e))

pub funct3_fits : (w op f3 : ℕ) (g : ℕ → Instr) → field w 0 7 ≡ op → op < 128 → f3 < 8
    → fits w (funct3_row f3 op g) ≡ eqb (field w 12 3) f3
funct3_fits w op f3 g a l m = let e = and_funct3 w in grind (arith, nat_tests)

pub funct7_fits : (w op f7 f3 : ℕ) (g : ℕ → Instr) → field w 0 7 ≡ op → op < 128 → f3 < 8 → f7 < 128
    → fits w (funct7_row f7 f3 op g) ≡ (eqb (field w 25 7) f7 && eqb (field w 12 3) f3)
funct7_fits w op f7 f3 g a l m n =
    let e = and_top w 127 in let t = and_mask (w / 2 ^ 25) 7 in grind (arith, nat_tests)

-- funct5 without aq and rl
and_funct5 : (v : ℕ) → bit_and v 0x7c ≡ field v 2 5 * 2 ^ 2
and_funct5 v =
    let x = v % 2 ^ 2 in
    let split : v / 2 ^ 2 * 2 ^ 2 + x ≡ v = shr_split v 2 in
    let whole : bit_and (v / 2 ^ 2 * 2 ^ 2 + x) (31 * 2 ^ 2 + 0) ≡ bit_and (v / 2 ^ 2) 31 * 2 ^ 2 + bit_and x 0 =
    and_block 2 (v / 2 ^ 2) 31 x 0 (omega arith) (omega arith) in
    let high = and_mask (v / 2 ^ 2) 5 in
    let low = and_mask x 0 in
    ap (λ y. bit_and y 0x7c) (sym split) ∙ whole ∙ omega (arith, high, low)

pub funct5_fits : (w op f5 f3 : ℕ) (g : ℕ → Instr) → field w 0 7 ≡ op → op < 128 → f3 < 8 → f5 < 32
    → fits w (funct5_row f5 f3 op g) ≡ (eqb (field w 27 5) f5 && eqb (field w 12 3) f3)
funct5_fits w op f5 f3 g a l m n =
    let e = and_top w 0x7c in let t = and_funct5 (w / 2 ^ 25) in
    let shift : field (w / 2 ^ 25) 2 5 ≡ field w 27 5 = omega arith in
    grind (arith, nat_tests)

-- funct5 and rs2, without aq and rl
and_lr_high : (v : ℕ) → bit_and v 0xf9f ≡ bit_and (v / 2 ^ 5) 0x7c * 2 ^ 5 + field v 0 5
and_lr_high v =
    let x = v % 2 ^ 5 in
    let split : v / 2 ^ 5 * 2 ^ 5 + x ≡ v = shr_split v 5 in
    let whole : bit_and (v / 2 ^ 5 * 2 ^ 5 + x) (0x7c * 2 ^ 5 + 31) ≡ bit_and (v / 2 ^ 5) 0x7c * 2 ^ 5 + bit_and x 31 =
    and_block 5 (v / 2 ^ 5) 0x7c x 31 (omega arith) (omega arith) in
    let low = and_mask x 5 in
    ap (λ y. bit_and y 0xf9f) (sym split) ∙ whole ∙ omega (arith, low)

and_lr : (w : ℕ) → bit_and w 0xf9f0707f ≡ field w 27 5 * 2 ^ 27 + field w 20 5 * 2 ^ 20 + field w 12 3 * 2 ^ 12 + field w 0 7
and_lr w =
    let x = w % 2 ^ 20 in
    let split : w / 2 ^ 20 * 2 ^ 20 + x ≡ w = shr_split w 20 in
    let whole : bit_and (w / 2 ^ 20 * 2 ^ 20 + x) (0xf9f * 2 ^ 20 + 0x707f) ≡ bit_and (w / 2 ^ 20) 0xf9f * 2 ^ 20 + bit_and x 0x707f =
    and_block 20 (w / 2 ^ 20) 0xf9f x 0x707f (omega arith) (omega arith) in
    let high = and_lr_high (w / 2 ^ 20) in
    let five = and_funct5 (w / 2 ^ 20 / 2 ^ 5) in
    let f5 : field (w / 2 ^ 20 / 2 ^ 5) 2 5 ≡ field w 27 5 = omega arith in
    let rs2 : field (w / 2 ^ 20) 0 5 ≡ field w 20 5 = omega arith in
    let f3 : field x 12 3 ≡ field w 12 3 = omega arith in
    let op : field x 0 7 ≡ field w 0 7 = omega arith in
    ap (λ y. bit_and y 0xf9f0707f) (sym split) ∙ whole ∙ omega (arith, high, five, f5, rs2, and_funct3 x, f3, op)

pub lr_fits : (w : ℕ) (g : ℕ → Instr) → field w 0 7 ≡ 0x2f
    → fits w (row 0xf9f0707f 0x1000202f g) ≡ (eqb (field w 27 5) 2 && (eqb (field w 12 3) 2 && eqb (field w 20 5) 0))
lr_fits w g a = let e = and_lr w in grind (arith, nat_tests)

pub word_fits : (w m : ℕ) (i : Instr) → w < 2 ^ 32 → fits w (word_row m i) ≡ eqb w m
word_fits w m i h = let e = and_mask w 32 in let same : bit_and w 0xffffffff ≡ w = e ∙ omega arith in rw same refl
