-- Words, their fields and the immediates in them.
use Rattle.std.proofs.Common.{◌≡◌, ◌≢◌, ℕ, ◌+◌, ◌*◌, ◌%◌, ◌^◌, ◌<◌, Bool, true, false, eqb, refl, ap, arith, ℤ, pos, negsuc}
use Rattle.std.specs.Prelude.{◌≤ℤ◌}
use Rattle.std.proofs.lemmas.Int.{ints}
use Rattle.std.proofs.lemmas.Bool.{eq-eqb}
use Rattle.std.proofs.lemmas.Bool.Decides.{nat_tests}
use Rattle.rv32_decode.specs.Fields.{field, bit, signed, unsigned, imm_i, imm_s, imm_b, imm_j}
use Rattle.rv32_decode.specs.Formats.{r_word, i_word, s_word, b_word, u_word, j_word}
use Rattle.rv32_decode.specs.Codes.{ordered}

-- ---- signed numbers of some bits

pub signed_unsigned_12 : (z : ℤ) → negsuc 2047 ≤ℤ z → z ≤ℤ pos 2047 → signed 12 (unsigned 12 z) ≡ z
signed_unsigned_12 (pos n) a b = grind (arith, ints, nat_tests)
signed_unsigned_12 (negsuc n) a b = grind (arith, ints, nat_tests)

pub unsigned_signed_12 : (n : ℕ) → n < 2 ^ 12 → unsigned 12 (signed 12 n) ≡ n
unsigned_signed_12 n h = grind (arith, nat_tests)

pub unsigned_signed_13 : (n : ℕ) → n < 2 ^ 13 → unsigned 13 (signed 13 n) ≡ n
unsigned_signed_13 n h = grind (arith, nat_tests)

pub unsigned_signed_21 : (n : ℕ) → n < 2 ^ 21 → unsigned 21 (signed 21 n) ≡ n
unsigned_signed_21 n h = grind (arith, nat_tests)

-- ---- a word is its fields

pub r_whole : (w f7 f3 op : ℕ) → w < 2 ^ 32 → field w 25 7 ≡ f7 → field w 12 3 ≡ f3 → field w 0 7 ≡ op
    → r_word f7 (field w 20 5) (field w 15 5) f3 (field w 7 5) op ≡ w
r_whole w f7 f3 op l a b c = omega arith

pub i_whole : (w f3 op : ℕ) → w < 2 ^ 32 → field w 12 3 ≡ f3 → field w 0 7 ≡ op
    → i_word (field w 20 12) (field w 15 5) f3 (field w 7 5) op ≡ w
i_whole w f3 op l b c = omega arith

pub i_signed_whole : (w f3 op : ℕ) → w < 2 ^ 32 → field w 12 3 ≡ f3 → field w 0 7 ≡ op
    → i_word (unsigned 12 (imm_i w)) (field w 15 5) f3 (field w 7 5) op ≡ w
i_signed_whole w f3 op l b c =
    let back = unsigned_signed_12 (field w 20 12) (omega arith) in rw back (i_whole w f3 op l b c)

pub u_whole : (w op : ℕ) → w < 2 ^ 32 → field w 0 7 ≡ op → u_word (field w 12 20) (field w 7 5) op ≡ w
u_whole w op l c = omega arith

-- the pieces of an immediate
s_pieces : (a b : ℕ) → a < 2 ^ 7 → b < 2 ^ 5 → (field (a * 2 ^ 5 + b) 5 7 ≡ a) × (field (a * 2 ^ 5 + b) 0 5 ≡ b)
s_pieces a b p q = (omega arith, omega arith)

b_pieces : (n a b c d : ℕ) → n ≡ a * 2 ^ 12 + b * 2 ^ 11 + c * 2 ^ 5 + d * 2 → a < 2 → b < 2 → c < 2 ^ 6 → d < 2 ^ 4
    → (field n 12 1 ≡ a) × (field n 11 1 ≡ b) × (field n 5 6 ≡ c) × (field n 1 4 ≡ d)
b_pieces n a b c d e p q r s = (omega arith, omega arith, omega arith, omega arith)

j_pieces : (n a b c d : ℕ) → n ≡ a * 2 ^ 20 + b * 2 ^ 12 + c * 2 ^ 11 + d * 2 → a < 2 → b < 2 ^ 8 → c < 2 → d < 2 ^ 10
    → (field n 20 1 ≡ a) × (field n 12 8 ≡ b) × (field n 11 1 ≡ c) × (field n 1 10 ≡ d)
j_pieces n a b c d e p q r s = (omega arith, omega arith, omega arith, omega arith)

pub s_whole : (w f3 op : ℕ) → w < 2 ^ 32 → field w 12 3 ≡ f3 → field w 0 7 ≡ op
    → s_word (unsigned 12 (imm_s w)) (field w 20 5) (field w 15 5) f3 op ≡ w
s_whole w f3 op l b c =
    let back = unsigned_signed_12 (field w 25 7 * 2 ^ 5 + field w 7 5) (omega arith) in
    let p = s_pieces (field w 25 7) (field w 7 5) (omega arith) (omega arith) in
    rw back (omega (arith, p.0, p.1))

pub b_whole : (w f3 op : ℕ) → w < 2 ^ 32 → field w 12 3 ≡ f3 → field w 0 7 ≡ op
    → b_word (unsigned 13 (imm_b w)) (field w 20 5) (field w 15 5) f3 op ≡ w
b_whole w f3 op l b c =
    let n = field w 31 1 * 2 ^ 12 + field w 7 1 * 2 ^ 11 + field w 25 6 * 2 ^ 5 + field w 8 4 * 2 in
    let back = unsigned_signed_13 n (omega arith) in
    let p = b_pieces n (field w 31 1) (field w 7 1) (field w 25 6) (field w 8 4) refl (omega arith) (omega arith) (omega arith) (omega arith) in
    rw back (omega (arith, p.0, p.1, p.2, p.3))

pub j_whole : (w op : ℕ) → w < 2 ^ 32 → field w 0 7 ≡ op → j_word (unsigned 21 (imm_j w)) (field w 7 5) op ≡ w
j_whole w op l c =
    let n = field w 31 1 * 2 ^ 20 + field w 12 8 * 2 ^ 12 + field w 20 1 * 2 ^ 11 + field w 21 10 * 2 in
    let back = unsigned_signed_21 n (omega arith) in
    let p = j_pieces n (field w 31 1) (field w 12 8) (field w 20 1) (field w 21 10) refl (omega arith) (omega arith) (omega arith) (omega arith) in
    rw back (omega (arith, p.0, p.1, p.2, p.3))

-- funct5, aq and rl, from funct7
pub ordered_whole : (w f5 : ℕ) → field w 27 5 ≡ f5 → field w 25 7 ≡ ordered f5 (bit w 26) (bit w 25)
ordered_whole w f5 e = grind (arith, nat_tests)

pub signed_unsigned_13 : (z : ℤ) → negsuc 4095 ≤ℤ z → z ≤ℤ pos 4094 → signed 13 (unsigned 13 z) ≡ z
signed_unsigned_13 (pos n) a b = grind (arith, ints, nat_tests)
signed_unsigned_13 (negsuc n) a b = grind (arith, ints, nat_tests)

pub signed_unsigned_21 : (z : ℤ) → negsuc 1048575 ≤ℤ z → z ≤ℤ pos 1048574 → signed 21 (unsigned 21 z) ≡ z
signed_unsigned_21 (pos n) a b = grind (arith, ints, nat_tests)
signed_unsigned_21 (negsuc n) a b = grind (arith, ints, nat_tests)

pub unsigned_12_small : (z : ℤ) → negsuc 2047 ≤ℤ z → z ≤ℤ pos 2047 → unsigned 12 z < 2 ^ 12
unsigned_12_small (pos n) a b = omega (arith, ints)
unsigned_12_small (negsuc n) a b = omega (arith, ints)

pub unsigned_13_small : (z : ℤ) → negsuc 4095 ≤ℤ z → z ≤ℤ pos 4094 → unsigned 32 z % 2 ≡ 0 → (unsigned 13 z < 2 ^ 13) × (unsigned 13 z % 2 ≡ 0)
unsigned_13_small (pos n) a b even = (omega (arith, ints), omega (arith, ints))
unsigned_13_small (negsuc n) a b even = (omega (arith, ints), omega (arith, ints))

pub unsigned_21_small : (z : ℤ) → negsuc 1048575 ≤ℤ z → z ≤ℤ pos 1048574 → unsigned 32 z % 2 ≡ 0 → (unsigned 21 z < 2 ^ 21) × (unsigned 21 z % 2 ≡ 0)
unsigned_21_small (pos n) a b even = (omega (arith, ints), omega (arith, ints))
unsigned_21_small (negsuc n) a b even = (omega (arith, ints), omega (arith, ints))

-- ---- the fields of a word of each format

pub record RFields (w f7 r2 r1 f3 d op : ℕ) : Type 0 where
  pub opcode : field w 0 7 ≡ op
  pub rd : field w 7 5 ≡ d
  pub funct3 : field w 12 3 ≡ f3
  pub rs1 : field w 15 5 ≡ r1
  pub rs2 : field w 20 5 ≡ r2
  pub funct7 : field w 25 7 ≡ f7

pub r_fields : (w f7 r2 r1 f3 d op : ℕ) → w ≡ r_word f7 r2 r1 f3 d op → f7 < 128 → r2 < 32 → r1 < 32 → f3 < 8 → d < 32 → op < 128
    → RFields w f7 r2 r1 f3 d op
r_fields w f7 r2 r1 f3 d op e l7 l2 l1 l3 ld lo =
    record { opcode = omega arith; rd = omega arith; funct3 = omega arith; rs1 = omega arith; rs2 = omega arith; funct7 = omega arith }

pub record IFields (w n r1 f3 d op : ℕ) : Type 0 where
  pub opcode : field w 0 7 ≡ op
  pub rd : field w 7 5 ≡ d
  pub funct3 : field w 12 3 ≡ f3
  pub rs1 : field w 15 5 ≡ r1
  pub imm : field w 20 12 ≡ n

pub i_fields : (w n r1 f3 d op : ℕ) → w ≡ i_word n r1 f3 d op → n < 2 ^ 12 → r1 < 32 → f3 < 8 → d < 32 → op < 128 → IFields w n r1 f3 d op
i_fields w n r1 f3 d op e ln l1 l3 ld lo =
    record { opcode = omega arith; rd = omega arith; funct3 = omega arith; rs1 = omega arith; imm = omega arith }

pub u_fields : (w n d op : ℕ) → w ≡ u_word n d op → n < 2 ^ 20 → d < 32 → op < 128 → (field w 0 7 ≡ op) × (field w 7 5 ≡ d) × (field w 12 20 ≡ n)
u_fields w n d op e ln ld lo = (omega arith, omega arith, omega arith)

-- ---- the immediates of a word of each format

pub s_imm : (w n : ℕ) → n < 2 ^ 12 → field w 7 5 ≡ field n 0 5 → field w 25 7 ≡ field n 5 7 → imm_s w ≡ signed 12 n
s_imm w n l a b = let e : field w 25 7 * 2 ^ 5 + field w 7 5 ≡ n = omega arith in ap (signed 12) e

pub b_imm : (w n : ℕ) → n < 2 ^ 13 → n % 2 ≡ 0 → field w 7 5 ≡ field n 1 4 * 2 + field n 11 1 → field w 25 7 ≡ field n 12 1 * 2 ^ 6 + field n 5 6
    → imm_b w ≡ signed 13 n
b_imm w n l even a b =
    let one : field w 31 1 ≡ field n 12 1 = omega arith in
    let two : field w 7 1 ≡ field n 11 1 = omega arith in
    let three : field w 25 6 ≡ field n 5 6 = omega arith in
    let four : field w 8 4 ≡ field n 1 4 = omega arith in
    let e : field w 31 1 * 2 ^ 12 + field w 7 1 * 2 ^ 11 + field w 25 6 * 2 ^ 5 + field w 8 4 * 2 ≡ n = omega arith in
    ap (signed 13) e

pub j_imm : (w n : ℕ) → n < 2 ^ 21 → n % 2 ≡ 0 → field w 12 20 ≡ field n 20 1 * 2 ^ 19 + field n 1 10 * 2 ^ 9 + field n 11 1 * 2 ^ 8 + field n 12 8
    → imm_j w ≡ signed 21 n
j_imm w n l even a =
    let one : field w 31 1 ≡ field n 20 1 = omega arith in
    let two : field w 12 8 ≡ field n 12 8 = omega arith in
    let three : field w 20 1 ≡ field n 11 1 = omega arith in
    let four : field w 21 10 ≡ field n 1 10 = omega arith in
    let e : field w 31 1 * 2 ^ 20 + field w 12 8 * 2 ^ 12 + field w 20 1 * 2 ^ 11 + field w 21 10 * 2 ≡ n = omega arith in
    ap (signed 21) e

off : (a b : ℕ) → a ≢ b → eqb a b ≡ false
off a b h = grind (arith, nat_tests)

-- funct5, aq and rl are read again
pub ordered_fields : (w f5 : ℕ) (aq rl : Bool) → f5 < 32 → field w 25 7 ≡ ordered f5 aq rl
    → (field w 27 5 ≡ f5) × (bit w 26 ≡ aq) × (bit w 25 ≡ rl)
ordered_fields w f5 true true l e = (omega arith, eq-eqb _ _ (omega arith), eq-eqb _ _ (omega arith))
ordered_fields w f5 true false l e = (omega arith, eq-eqb _ _ (omega arith), off _ 1 (omega arith))
ordered_fields w f5 false true l e = (omega arith, off _ 1 (omega arith), eq-eqb _ _ (omega arith))
ordered_fields w f5 false false l e = (omega arith, off _ 1 (omega arith), off _ 1 (omega arith))

pub ordered_small : (f5 : ℕ) (aq rl : Bool) → f5 < 32 → ordered f5 aq rl < 128
ordered_small f5 true true l = omega arith
ordered_small f5 true false l = omega arith
ordered_small f5 false true l = omega arith
ordered_small f5 false false l = omega arith
