-- Each word that a row fits is the word of the row's instruction.
use Rattle.std.proofs.Common.{◌≡◌, ℕ, ◌+◌, ◌*◌, ◌^◌, ◌<◌, Bool, true, eqb, ltb, map, ◌++◌, refl, sym, ap, ◌∙◌, arith}
use Rattle.std.specs.Prelude.{Option, Some, None, find, ◌&&◌}
use Rattle.std.specs.Option.{option_map}
use Rattle.std.proofs.lemmas.Bool.{eqb-true, ltb-true}
use Rattle.rv32_decode.specs.Fields.{field, bit, imm_i, imm_j}
use Rattle.rv32_decode.specs.Formats.{r_word}
use Rattle.rv32_decode.specs.Codes.{branch_code, load_code, store_code, imm_code, shift_codes, op_codes, amo_code, ordered}
use Rattle.rv32_decode.specs.Rows.{Row, fits, rows, row, instruction_of, opcode_row, funct3_row, funct5_row, word_row, branch_row, branch_table, load_row, load_table, store_row, store_table, imm_row, imm_table, shift_row, shift_table, op_row, op_table, amo_row, amo_table}
use Rattle.rv32_decode.specs.declared.Cond.{Cond}
use Rattle.rv32_decode.specs.declared.LoadKind.{LoadKind}
use Rattle.rv32_decode.specs.declared.Width.{Width}
use Rattle.rv32_decode.specs.declared.Op.{Op as Operation}
use Rattle.rv32_decode.specs.declared.ImmOp.{ImmOp}
use Rattle.rv32_decode.specs.declared.ShiftOp.{ShiftOp}
use Rattle.rv32_decode.specs.declared.AmoOp.{AmoOp}
use Rattle.rv32_decode.specs.declared.IllegalWord.TheVariants.{Zeros, Ones, CycleWrite}
use Rattle.rv32_decode.specs.declared.Instr.{Instr}
use Rattle.rv32_decode.specs.declared.Instr.TheVariants.{Lui, Auipc, Jal, Jalr, Fence, Ecall, Ebreak, Lr, Sc, Illegal}
use Rattle.rv32_decode.proofs.EachRow.{Each, Each-append, Each-map, found_row}
use Rattle.rv32_decode.proofs.Fitting.{kept, and_parts, word_fits}
use Rattle.rv32_decode.specs.Words.{word_of}
use Rattle.rv32_decode.proofs.Whole.{r_whole, i_whole, s_whole, b_whole, u_whole, j_whole, i_signed_whole, ordered_whole}

-- where the row fits, the word is that of the row's instruction
abbrev IsRebuilt : ℕ → Row → Type 0
IsRebuilt w r = fits w r ≡ true → word_of (r.fields w) ≡ w

-- ---- the rows of one word of fields

whole_word : (w m : ℕ) (i : Instr) → w < 2 ^ 32 → word_of i ≡ m → IsRebuilt w (word_row m i)
whole_word w m i l e f = e ∙ sym (eqb-true _ _ (sym (word_fits w m i l) ∙ f))

lui_back : (w : ℕ) → w < 2 ^ 32 → IsRebuilt w (opcode_row 0x37 (λ w. Lui (field w 7 5) (field w 12 20)))
lui_back w l f = u_whole w 0x37 l (kept w 0x7f 0x37 0 7 refl f)

auipc_back : (w : ℕ) → w < 2 ^ 32 → IsRebuilt w (opcode_row 0x17 (λ w. Auipc (field w 7 5) (field w 12 20)))
auipc_back w l f = u_whole w 0x17 l (kept w 0x7f 0x17 0 7 refl f)

jal_back : (w : ℕ) → w < 2 ^ 32 → IsRebuilt w (opcode_row 0x6f (λ w. Jal (field w 7 5) (imm_j w)))
jal_back w l f = j_whole w 0x6f l (kept w 0x7f 0x6f 0 7 refl f)

jalr_back : (w : ℕ) → w < 2 ^ 32 → IsRebuilt w (funct3_row 0 0x67 (λ w. Jalr (field w 7 5) (field w 15 5) (imm_i w)))
jalr_back w l f = i_signed_whole w 0 0x67 l (kept w 0x707f 0x67 12 3 refl f) (kept w 0x707f 0x67 0 7 refl f)

fence_back : (w : ℕ) → w < 2 ^ 32 → IsRebuilt w (funct3_row 0 0x0f (λ w. Fence (field w 7 5) (field w 15 5) (field w 20 12)))
fence_back w l f = i_whole w 0 0x0f l (kept w 0x707f 0x0f 12 3 refl f) (kept w 0x707f 0x0f 0 7 refl f)

lr_back : (w : ℕ) → w < 2 ^ 32 → IsRebuilt w (row 0xf9f0707f 0x1000202f (λ w. Lr (field w 7 5) (field w 15 5) (bit w 26) (bit w 25)))
lr_back w l f =
    let rs2 : field w 20 5 ≡ 0 = kept w 0xf9f0707f 0x1000202f 20 5 refl f in
    let five : field w 27 5 ≡ 2 = kept w 0xf9f0707f 0x1000202f 27 5 refl f in
    let whole = r_whole w _ 2 0x2f l (ordered_whole w 2 five) (kept w 0xf9f0707f 0x1000202f 12 3 refl f) (kept w 0xf9f0707f 0x1000202f 0 7 refl f) in
    ap (λ r. r_word (ordered 2 (bit w 26) (bit w 25)) r (field w 15 5) 2 (field w 7 5) 0x2f) (sym rs2) ∙ whole

sc_back : (w : ℕ) → w < 2 ^ 32 → IsRebuilt w (funct5_row 3 2 0x2f (λ w. Sc (field w 7 5) (field w 15 5) (field w 20 5) (bit w 26) (bit w 25)))
sc_back w l f =
    let five : field w 27 5 ≡ 3 = kept w 0xf800707f 0x1800202f 27 5 refl f in
    r_whole w _ 2 0x2f l (ordered_whole w 3 five) (kept w 0xf800707f 0x1800202f 12 3 refl f) (kept w 0xf800707f 0x1800202f 0 7 refl f)

-- ---- the rows of the tables, whose codes are those of their kinds

abbrev branch_ok : ℕ × Cond → Bool
branch_ok t = ltb t.0 8 && eqb (branch_code t.1) t.0

branch_back : (w : ℕ) → w < 2 ^ 32 → (t : ℕ × Cond) → branch_ok t ≡ true → IsRebuilt w (branch_row t)
branch_back w l t ok f =
    let both = and_parts (ltb t.0 8) (eqb (branch_code t.1) t.0) ok in
    let small = ltb-true _ _ both.0 in
    let code = eqb-true _ _ both.1 in
    let three = kept w 0x707f (t.0 * 2 ^ 12 + 0x63) 12 3 refl f in
    let seven = kept w 0x707f (t.0 * 2 ^ 12 + 0x63) 0 7 refl f in
    b_whole w (branch_code t.1) 0x63 l (omega (arith, small, code, three)) (omega (arith, seven))

abbrev load_ok : ℕ × LoadKind → Bool
load_ok t = ltb t.0 8 && eqb (load_code t.1) t.0

load_back : (w : ℕ) → w < 2 ^ 32 → (t : ℕ × LoadKind) → load_ok t ≡ true → IsRebuilt w (load_row t)
load_back w l t ok f =
    let both = and_parts (ltb t.0 8) (eqb (load_code t.1) t.0) ok in
    let small = ltb-true _ _ both.0 in
    let code = eqb-true _ _ both.1 in
    let three = kept w 0x707f (t.0 * 2 ^ 12 + 0x03) 12 3 refl f in
    let seven = kept w 0x707f (t.0 * 2 ^ 12 + 0x03) 0 7 refl f in
    i_signed_whole w (load_code t.1) 0x03 l (omega (arith, small, code, three)) (omega (arith, seven))

abbrev store_ok : ℕ × Width → Bool
store_ok t = ltb t.0 8 && eqb (store_code t.1) t.0

store_back : (w : ℕ) → w < 2 ^ 32 → (t : ℕ × Width) → store_ok t ≡ true → IsRebuilt w (store_row t)
store_back w l t ok f =
    let both = and_parts (ltb t.0 8) (eqb (store_code t.1) t.0) ok in
    let small = ltb-true _ _ both.0 in
    let code = eqb-true _ _ both.1 in
    let three = kept w 0x707f (t.0 * 2 ^ 12 + 0x23) 12 3 refl f in
    let seven = kept w 0x707f (t.0 * 2 ^ 12 + 0x23) 0 7 refl f in
    s_whole w (store_code t.1) 0x23 l (omega (arith, small, code, three)) (omega (arith, seven))

abbrev imm_ok : ℕ × ImmOp → Bool
imm_ok t = ltb t.0 8 && eqb (imm_code t.1) t.0

imm_back : (w : ℕ) → w < 2 ^ 32 → (t : ℕ × ImmOp) → imm_ok t ≡ true → IsRebuilt w (imm_row t)
imm_back w l t ok f =
    let both = and_parts (ltb t.0 8) (eqb (imm_code t.1) t.0) ok in
    let small = ltb-true _ _ both.0 in
    let code = eqb-true _ _ both.1 in
    let three = kept w 0x707f (t.0 * 2 ^ 12 + 0x13) 12 3 refl f in
    let seven = kept w 0x707f (t.0 * 2 ^ 12 + 0x13) 0 7 refl f in
    i_signed_whole w (imm_code t.1) 0x13 l (omega (arith, small, code, three)) (omega (arith, seven))

abbrev shift_ok : ℕ × ℕ × ShiftOp → Bool
shift_ok t = (ltb t.0 128 && ltb t.1 8) && (eqb (shift_codes t.2).0 t.0 && eqb (shift_codes t.2).1 t.1)

shift_back : (w : ℕ) → w < 2 ^ 32 → (t : ℕ × ℕ × ShiftOp) → shift_ok t ≡ true → IsRebuilt w (shift_row t)
shift_back w l t ok f =
    let both = and_parts (ltb t.0 128 && ltb t.1 8) (eqb (shift_codes t.2).0 t.0 && eqb (shift_codes t.2).1 t.1) ok in
    let small = and_parts (ltb t.0 128) (ltb t.1 8) both.0 in
    let code = and_parts (eqb (shift_codes t.2).0 t.0) (eqb (shift_codes t.2).1 t.1) both.1 in
    let small_seven = ltb-true _ _ small.0 in
    let small_three = ltb-true _ _ small.1 in
    let code_seven = eqb-true _ _ code.0 in
    let code_three = eqb-true _ _ code.1 in
    let match = t.0 * 2 ^ 25 + t.1 * 2 ^ 12 + 0x13 in
    let seven = kept w 0xfe00707f match 25 7 refl f in
    let three = kept w 0xfe00707f match 12 3 refl f in
    let opcode = kept w 0xfe00707f match 0 7 refl f in
    r_whole w (shift_codes t.2).0 (shift_codes t.2).1 0x13 l
    (omega (arith, small_seven, small_three, code_seven, seven)) (omega (arith, small_seven, small_three, code_three, three))
    (omega (arith, opcode))

abbrev op_ok : ℕ × ℕ × Operation → Bool
op_ok t = (ltb t.0 128 && ltb t.1 8) && (eqb (op_codes t.2).0 t.0 && eqb (op_codes t.2).1 t.1)

op_back : (w : ℕ) → w < 2 ^ 32 → (t : ℕ × ℕ × Operation) → op_ok t ≡ true → IsRebuilt w (op_row t)
op_back w l t ok f =
    let both = and_parts (ltb t.0 128 && ltb t.1 8) (eqb (op_codes t.2).0 t.0 && eqb (op_codes t.2).1 t.1) ok in
    let small = and_parts (ltb t.0 128) (ltb t.1 8) both.0 in
    let code = and_parts (eqb (op_codes t.2).0 t.0) (eqb (op_codes t.2).1 t.1) both.1 in
    let small_seven = ltb-true _ _ small.0 in
    let small_three = ltb-true _ _ small.1 in
    let code_seven = eqb-true _ _ code.0 in
    let code_three = eqb-true _ _ code.1 in
    let match = t.0 * 2 ^ 25 + t.1 * 2 ^ 12 + 0x33 in
    let seven = kept w 0xfe00707f match 25 7 refl f in
    let three = kept w 0xfe00707f match 12 3 refl f in
    let opcode = kept w 0xfe00707f match 0 7 refl f in
    r_whole w (op_codes t.2).0 (op_codes t.2).1 0x33 l
    (omega (arith, small_seven, small_three, code_seven, seven)) (omega (arith, small_seven, small_three, code_three, three))
    (omega (arith, opcode))

abbrev amo_ok : ℕ × AmoOp → Bool
amo_ok t = ltb t.0 32 && eqb (amo_code t.1) t.0

amo_back : (w : ℕ) → w < 2 ^ 32 → (t : ℕ × AmoOp) → amo_ok t ≡ true → IsRebuilt w (amo_row t)
amo_back w l t ok f =
    let both = and_parts (ltb t.0 32) (eqb (amo_code t.1) t.0) ok in
    let small = ltb-true _ _ both.0 in
    let code = eqb-true _ _ both.1 in
    let match = t.0 * 2 ^ 27 + 2 * 2 ^ 12 + 0x2f in
    let five = kept w 0xf800707f match 27 5 refl f in
    let three = kept w 0xf800707f match 12 3 refl f in
    let opcode = kept w 0xf800707f match 0 7 refl f in
    r_whole w _ 2 0x2f l (ordered_whole w (amo_code t.1) (omega (arith, small, code, five))) (omega (arith, three)) (omega (arith, opcode))

-- the rows of the tables, in their order
tables_rebuilt : (w : ℕ) → w < 2 ^ 32
    → Each (IsRebuilt w) (map branch_row branch_table ++ map load_row load_table ++ map store_row store_table ++ map imm_row imm_table
    ++ map shift_row shift_table ++ map op_row op_table ++ map amo_row amo_table)
tables_rebuilt w l =
    let P = IsRebuilt w in
    let branches = map branch_row branch_table in
    let loads = map load_row load_table in
    let stores = map store_row store_table in
    let imms = map imm_row imm_table in
    let shifts = map shift_row shift_table in
    let ops = map op_row op_table in
    let amos = map amo_row amo_table in
    let two = Each-append P branches loads (Each-map P branch_ok branch_row (branch_back w l) branch_table refl) (Each-map P load_ok load_row (load_back w l) load_table refl) in
    let three = Each-append P (branches ++ loads) stores two (Each-map P store_ok store_row (store_back w l) store_table refl) in
    let four = Each-append P (branches ++ loads ++ stores) imms three (Each-map P imm_ok imm_row (imm_back w l) imm_table refl) in
    let five = Each-append P (branches ++ loads ++ stores ++ imms) shifts four (Each-map P shift_ok shift_row (shift_back w l) shift_table refl) in
    let six = Each-append P (branches ++ loads ++ stores ++ imms ++ shifts) ops five (Each-map P op_ok op_row (op_back w l) op_table refl) in
    Each-append P (branches ++ loads ++ stores ++ imms ++ shifts ++ ops) amos six (Each-map P amo_ok amo_row (amo_back w l) amo_table refl)

each_rebuilt : (w : ℕ) → w < 2 ^ 32 → Each (IsRebuilt w) rows
unfolding rows
each_rebuilt w l = (
  lui_back w l,
  (
    auipc_back w l,
    (
      jal_back w l,
      (
        jalr_back w l,
        (
          fence_back w l,
          (
            lr_back w l,
            (
              sc_back w l,
              (
                whole_word w 0x73 Ecall l refl,
                (
                  whole_word w 0x100073 Ebreak l refl,
                  (
                    whole_word w 0 (Illegal Zeros) l refl,
                    (whole_word w 0xffffffff (Illegal Ones) l refl, (whole_word w 0xc0001073 (Illegal CycleWrite) l refl, tables_rebuilt w l)),
                  ),
                ),
              ),
            ),
          ),
        ),
      ),
    ),
  ),
)

only_case : (w : ℕ) (i : Instr) (o : Option Row) → w < 2 ^ 32 → find (fits w) rows ≡ o → option_map (λ r. r.fields w) o ≡ Some i → w ≡ word_of i
only_case w i None l found e = cc
only_case w i (Some r) l found e =
    let both = found_row (IsRebuilt w) (fits w) rows r (each_rebuilt w l) found in
    let same : r.fields w ≡ i = cc in
    sym (both.0 both.1) ∙ ap word_of same

pub only_word : (w : ℕ) (i : Instr) → w < 2 ^ 32 → instruction_of w ≡ Some i → w ≡ word_of i
unfolding instruction_of
only_word w i l e = only_case w i (find (fits w) rows) l refl e
