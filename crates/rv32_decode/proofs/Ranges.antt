-- The parts of the instruction of a word are within their ranges.
use Rattle.std.proofs.Common.{◌≡◌, ℕ, ◌+◌, ◌*◌, ◌/◌, ◌%◌, ◌^◌, ◌<◌, true, map, ◌++◌, refl, arith, pos, negsuc, subst, lit<}
use Rattle.std.specs.Prelude.{Option, Some, None, find, ◌≤ℤ◌}
use Rattle.std.specs.Option.{option_map}
use Rattle.std.proofs.lemmas.Bool.Decides.{nat_tests}
use Rattle.std.proofs.lemmas.Int.{ints}
use Rattle.rv32_decode.specs.Fields.{field, signed, unsigned, imm_i, imm_s, imm_b, imm_j}
use Rattle.std.proofs.lemmas.Nat.{mod_below}
use Rattle.rv32_decode.specs.declared.Instr.{Instr}
use Rattle.rv32_decode.specs.Rows.{Row, fits, rows, instruction_of, branch_row, branch_table, load_row, load_table, store_row, store_table, imm_row, imm_table, shift_row, shift_table, op_row, op_table, amo_row, amo_table}
use Rattle.rv32_decode.proofs.EachRow.{Each, Each-append, Each-map, found_row}
use Rattle.rv32_decode.specs.Words.{IsInRange}

signed_12_range : (n : ℕ) → n < 2 ^ 12 → (negsuc 2047 ≤ℤ signed 12 n) × (signed 12 n ≤ℤ pos 2047)
signed_12_range n l = (grind (arith, ints, nat_tests), grind (arith, ints, nat_tests))

signed_13_range : (n : ℕ) → n < 2 ^ 13 → n % 2 ≡ 0 → (negsuc 4095 ≤ℤ signed 13 n) × (signed 13 n ≤ℤ pos 4094) × (unsigned 32 (signed 13 n) % 2 ≡ 0)
signed_13_range n l e = (grind (arith, ints, nat_tests), grind (arith, ints, nat_tests), grind (arith, ints, nat_tests))

signed_21_range : (n : ℕ) → n < 2 ^ 21 → n % 2 ≡ 0 → (negsuc 1048575 ≤ℤ signed 21 n) × (signed 21 n ≤ℤ pos 1048574) × (unsigned 32 (signed 21 n) % 2 ≡ 0)
signed_21_range n l e = (grind (arith, ints, nat_tests), grind (arith, ints, nat_tests), grind (arith, ints, nat_tests))

-- the row's instruction of any word is within its ranges
abbrev IsSmall : ℕ → Row → Type 0
IsSmall w r = IsInRange (r.fields w)

imm_i_range : (w : ℕ) → (negsuc 2047 ≤ℤ imm_i w) × (imm_i w ≤ℤ pos 2047)
imm_i_range w = signed_12_range (field w 20 12) (omega arith)

imm_s_range : (w : ℕ) → (negsuc 2047 ≤ℤ imm_s w) × (imm_s w ≤ℤ pos 2047)
imm_s_range w = signed_12_range (field w 25 7 * 2 ^ 5 + field w 7 5) (omega arith)

imm_b_range : (w : ℕ) → (negsuc 4095 ≤ℤ imm_b w) × (imm_b w ≤ℤ pos 4094) × (unsigned 32 (imm_b w) % 2 ≡ 0)
imm_b_range w =
    signed_13_range (field w 31 1 * 2 ^ 12 + field w 7 1 * 2 ^ 11 + field w 25 6 * 2 ^ 5 + field w 8 4 * 2) (omega arith) (omega arith)

imm_j_range : (w : ℕ) → (negsuc 1048575 ≤ℤ imm_j w) × (imm_j w ≤ℤ pos 1048574) × (unsigned 32 (imm_j w) % 2 ≡ 0)
imm_j_range w =
    signed_21_range (field w 31 1 * 2 ^ 20 + field w 12 8 * 2 ^ 12 + field w 20 1 * 2 ^ 11 + field w 21 10 * 2) (omega arith) (omega arith)

five_bits : (w low : ℕ) → field w low 5 < 32
five_bits w low = mod_below (w / 2 ^ low) 32 (lit< tt)

tables_small : (w : ℕ)
    → Each (IsSmall w) (map branch_row branch_table ++ map load_row load_table ++ map store_row store_table ++ map imm_row imm_table
    ++ map shift_row shift_table ++ map op_row op_table ++ map amo_row amo_table)
tables_small w =
    let P = IsSmall w in
    let rd = five_bits w 7 in
    let rs1 = five_bits w 15 in
    let rs2 = five_bits w 20 in
    let i = imm_i_range w in
    let s = imm_s_range w in
    let b = imm_b_range w in
    let branches = map branch_row branch_table in
    let loads = map load_row load_table in
    let stores = map store_row store_table in
    let imms = map imm_row imm_table in
    let shifts = map shift_row shift_table in
    let ops = map op_row op_table in
    let amos = map amo_row amo_table in
    let two = Each-append P branches loads (Each-map P (λ _. true) branch_row (λ t _. (rs1, rs2, b.0, b.1, b.2)) branch_table refl) (Each-map P (λ _. true) load_row (λ t _. (rd, rs1, i.0, i.1)) load_table refl) in
    let three = Each-append P (branches ++ loads) stores two (Each-map P (λ _. true) store_row (λ t _. (rs1, rs2, s.0, s.1)) store_table refl) in
    let four = Each-append P (branches ++ loads ++ stores) imms three (Each-map P (λ _. true) imm_row (λ t _. (rd, rs1, i.0, i.1)) imm_table refl) in
    let five = Each-append P (branches ++ loads ++ stores ++ imms) shifts four (Each-map P (λ _. true) shift_row (λ t _. (rd, rs1, rs2)) shift_table refl) in
    let six = Each-append P (branches ++ loads ++ stores ++ imms ++ shifts) ops five (Each-map P (λ _. true) op_row (λ t _. (rd, rs1, rs2)) op_table refl) in
    Each-append P (branches ++ loads ++ stores ++ imms ++ shifts ++ ops) amos six (Each-map P (λ _. true) amo_row (λ t _. (rd, rs1, rs2)) amo_table refl)

each_small : (w : ℕ) → Each (IsSmall w) rows
unfolding rows
each_small w =
    let rd = five_bits w 7 in
    let rs1 = five_bits w 15 in
    let rs2 = five_bits w 20 in
    let upper : field w 12 20 < 2 ^ 20 = omega arith in
    let bits : field w 20 12 < 2 ^ 12 = omega arith in
    let i = imm_i_range w in
    let j = imm_j_range w in (
      (rd, upper),
      (
        (rd, upper),
        (
          (rd, j.0, j.1, j.2),
          (
            (rd, rs1, i.0, i.1),
            (
              (rd, rs1, bits),
              (
                (rd, rs1),
                (
                  (rd, rs1, rs2),
                  (tt, (tt, (tt, (tt, (tt, tables_small w))))),
                ),
              ),
            ),
          ),
        ),
      ),
    )

range_case : (w : ℕ) (i : Instr) (o : Option Row) → find (fits w) rows ≡ o → option_map (λ r. r.fields w) o ≡ Some i → IsInRange i
range_case w i None found e = cc
range_case w i (Some r) found e =
    let same : r.fields w ≡ i = cc in
    subst IsInRange same (found_row (IsSmall w) (fits w) rows r (each_small w) found).0

pub in_range : (w : ℕ) (i : Instr) → instruction_of w ≡ Some i → IsInRange i
unfolding instruction_of
in_range w i e = range_case w i (find (fits w) rows) refl e
