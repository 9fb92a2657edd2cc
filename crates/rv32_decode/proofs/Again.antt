-- The word that an instruction is written as is read as that instruction.
use Rattle.std.proofs.Common.{◌≡◌, ◌≢◌, ℕ, ◌+◌, ◌*◌, ◌^◌, ◌<◌, Bool, refl, sym, ap, ◌∙◌, arith, ℤ, lit<}
use Rattle.std.specs.Prelude.{Some, None}
use Rattle.rv32_decode.specs.Fields.{field, signed, unsigned, imm_i, imm_s, imm_b, imm_j}
use Rattle.rv32_decode.specs.Codes.{branch_code, load_code, store_code, imm_code, shift_codes, op_codes, amo_code, ordered}
use Rattle.rv32_decode.specs.Tables.{entry, entry_of_two}
use Rattle.rv32_decode.specs.Rows.{instruction_of, rows, branch_table, load_table, store_table, imm_table, shift_table, op_table, amo_table}
use Rattle.rv32_decode.specs.Words.{word_of, IsInRange}
use Rattle.rv32_decode.specs.declared.Cond.{Cond}
use Rattle.rv32_decode.specs.declared.Cond.TheVariants.{Eq}
use Rattle.rv32_decode.specs.declared.LoadKind.{LoadKind}
use Rattle.rv32_decode.specs.declared.LoadKind.TheVariants as load_kind
use Rattle.rv32_decode.specs.declared.Width.{Width}
use Rattle.rv32_decode.specs.declared.Width.TheVariants as width
use Rattle.rv32_decode.specs.declared.Op.{Op as Operation}
use Rattle.rv32_decode.specs.declared.Op.TheVariants as op
use Rattle.rv32_decode.specs.declared.ImmOp.{ImmOp}
use Rattle.rv32_decode.specs.declared.ImmOp.TheVariants as imm_op
use Rattle.rv32_decode.specs.declared.ShiftOp.{ShiftOp}
use Rattle.rv32_decode.specs.declared.ShiftOp.TheVariants as shift_op
use Rattle.rv32_decode.specs.declared.AmoOp.{AmoOp}
use Rattle.rv32_decode.specs.declared.AmoOp.TheVariants as amo_op
use Rattle.rv32_decode.specs.declared.IllegalWord.TheVariants.{Zeros, Ones, CycleWrite}
use Rattle.rv32_decode.specs.declared.Instr.{Instr}
use Rattle.rv32_decode.specs.declared.Instr.TheVariants.{Lui, Auipc, Jal, Jalr, Branch, Load, Store, OpImm, ShiftImm, Op, Fence, Ecall, Ebreak, Lr, Sc, Amo, Illegal}
use Rattle.rv32_decode.proofs.Groups.{lui_is, auipc_is, jal_is, sc_is}
use Rattle.rv32_decode.proofs.Reading.{jalr_some, branch_some, load_some, store_some, imm_some, shift_some, op_some, fence_some, lr_some, amo_some}
use Rattle.rv32_decode.proofs.Whole.{signed_unsigned_12, signed_unsigned_13, signed_unsigned_21, unsigned_12_small, unsigned_13_small, unsigned_21_small, r_fields, i_fields, u_fields, s_imm, b_imm, j_imm, ordered_fields, ordered_small}

-- ---- each kind is found in its table

branch_found : (o : Cond) → (entry branch_table (branch_code o) ≡ Some o) × (branch_code o < 8)
branch_found Eq = (refl, lit< tt)
branch_found _ = (refl, lit< tt)

load_found : (o : LoadKind) → (entry load_table (load_code o) ≡ Some o) × (load_code o < 8)
load_found load_kind.Byte = (refl, lit< tt)
load_found _ = (refl, lit< tt)

store_found : (o : Width) → (entry store_table (store_code o) ≡ Some o) × (store_code o < 8)
store_found width.Byte = (refl, lit< tt)
store_found _ = (refl, lit< tt)

imm_found : (o : ImmOp) → (entry imm_table (imm_code o) ≡ Some o) × (imm_code o < 8)
imm_found imm_op.Add = (refl, lit< tt)
imm_found _ = (refl, lit< tt)

shift_found : (o : ShiftOp) → (entry_of_two shift_table (shift_codes o).0 (shift_codes o).1 ≡ Some o) × (entry imm_table (shift_codes o).1 ≡ None)
    × ((shift_codes o).0 < 128) × ((shift_codes o).1 < 8)
shift_found shift_op.Sll = (refl, refl, lit< tt, lit< tt)
shift_found _ = (refl, refl, lit< tt, lit< tt)

op_found : (o : Operation) → (entry_of_two op_table (op_codes o).0 (op_codes o).1 ≡ Some o) × ((op_codes o).0 < 128) × ((op_codes o).1 < 8)
op_found op.Add = (refl, lit< tt, lit< tt)
op_found _ = (refl, lit< tt, lit< tt)

amo_found : (o : AmoOp) → (entry amo_table (amo_code o) ≡ Some o) × (amo_code o < 32) × (amo_code o ≢ 2) × (amo_code o ≢ 3)
amo_found amo_op.Swap = (refl, lit< tt, omega arith, omega arith)
amo_found _ = (refl, lit< tt, omega arith, omega arith)

-- ---- each format

op_again : (w : ℕ) (o : Operation) (rd r1 r2 : ℕ) → w ≡ word_of (Op o rd r1 r2) → IsInRange (Op o rd r1 r2) → instruction_of w ≡ Some (Op o rd r1 r2)
op_again w o rd r1 r2 e h =
    let found = op_found o in
    let f = r_fields w (op_codes o).0 r2 r1 (op_codes o).1 rd 0x33 e found.1 h.2 h.1 found.2 h.0 (lit< tt) in
    let is = op_some w o f.opcode (rw (f.funct7, f.funct3) found.0) in
    cc

lui_again : (w rd n : ℕ) → w ≡ word_of (Lui rd n) → IsInRange (Lui rd n) → instruction_of w ≡ Some (Lui rd n)
lui_again w rd n e h =
    let f = u_fields w n rd 0x37 e h.1 h.0 (lit< tt) in
    let is = lui_is w f.0 in
    cc

auipc_again : (w rd n : ℕ) → w ≡ word_of (Auipc rd n) → IsInRange (Auipc rd n) → instruction_of w ≡ Some (Auipc rd n)
auipc_again w rd n e h =
    let f = u_fields w n rd 0x17 e h.1 h.0 (lit< tt) in
    let is = auipc_is w f.0 in
    cc

jal_again : (w rd : ℕ) (z : ℤ) → w ≡ word_of (Jal rd z) → IsInRange (Jal rd z) → instruction_of w ≡ Some (Jal rd z)
jal_again w rd z e h =
    let n = unsigned 21 z in
    let small = unsigned_21_small z h.1 h.2 h.3 in
    let upper = field n 20 1 * 2 ^ 19 + field n 1 10 * 2 ^ 9 + field n 11 1 * 2 ^ 8 + field n 12 8 in
    let f = u_fields w upper rd 0x6f e (omega arith) h.0 (lit< tt) in
    let imm : imm_j w ≡ z = j_imm w n small.0 small.1 f.2 ∙ signed_unsigned_21 z h.1 h.2 in
    let is = jal_is w f.0 in
    cc

jalr_again : (w rd r1 : ℕ) (z : ℤ) → w ≡ word_of (Jalr rd r1 z) → IsInRange (Jalr rd r1 z) → instruction_of w ≡ Some (Jalr rd r1 z)
jalr_again w rd r1 z e h =
    let n = unsigned 12 z in
    let f = i_fields w n r1 0 rd 0x67 e (unsigned_12_small z h.2 h.3) h.1 (lit< tt) h.0 (lit< tt) in
    let imm : imm_i w ≡ z = ap (signed 12) f.imm ∙ signed_unsigned_12 z h.2 h.3 in
    let is = jalr_some w f.opcode f.funct3 in
    cc

branch_again : (w : ℕ) (o : Cond) (r1 r2 : ℕ) (z : ℤ) → w ≡ word_of (Branch o r1 r2 z) → IsInRange (Branch o r1 r2 z) → instruction_of w ≡ Some (Branch o r1 r2 z)
branch_again w o r1 r2 z e h =
    let n = unsigned 13 z in
    let found = branch_found o in
    let small = unsigned_13_small z h.2 h.3 h.4 in
    let high = field n 12 1 * 2 ^ 6 + field n 5 6 in
    let low = field n 1 4 * 2 + field n 11 1 in
    let f = r_fields w high r2 r1 (branch_code o) low 0x63 e (omega arith) h.1 h.0 found.1 (omega arith) (lit< tt) in
    let imm : imm_b w ≡ z = b_imm w n small.0 small.1 f.rd f.funct7 ∙ signed_unsigned_13 z h.2 h.3 in
    let is = branch_some w o f.opcode (rw f.funct3 found.0) in
    cc

load_again : (w : ℕ) (o : LoadKind) (rd r1 : ℕ) (z : ℤ) → w ≡ word_of (Load o rd r1 z) → IsInRange (Load o rd r1 z) → instruction_of w ≡ Some (Load o rd r1 z)
load_again w o rd r1 z e h =
    let n = unsigned 12 z in
    let found = load_found o in
    let f = i_fields w n r1 (load_code o) rd 0x03 e (unsigned_12_small z h.2 h.3) h.1 found.1 h.0 (lit< tt) in
    let imm : imm_i w ≡ z = ap (signed 12) f.imm ∙ signed_unsigned_12 z h.2 h.3 in
    let is = load_some w o f.opcode (rw f.funct3 found.0) in
    cc

store_again : (w : ℕ) (o : Width) (r1 r2 : ℕ) (z : ℤ) → w ≡ word_of (Store o r1 r2 z) → IsInRange (Store o r1 r2 z) → instruction_of w ≡ Some (Store o r1 r2 z)
store_again w o r1 r2 z e h =
    let n = unsigned 12 z in
    let found = store_found o in
    let small = unsigned_12_small z h.2 h.3 in
    let f = r_fields w (field n 5 7) r2 r1 (store_code o) (field n 0 5) 0x23 e (omega arith) h.1 h.0 found.1 (omega arith) (lit< tt) in
    let imm : imm_s w ≡ z = s_imm w n small f.rd f.funct7 ∙ signed_unsigned_12 z h.2 h.3 in
    let is = store_some w o f.opcode (rw f.funct3 found.0) in
    cc

imm_again : (w : ℕ) (o : ImmOp) (rd r1 : ℕ) (z : ℤ) → w ≡ word_of (OpImm o rd r1 z) → IsInRange (OpImm o rd r1 z) → instruction_of w ≡ Some (OpImm o rd r1 z)
imm_again w o rd r1 z e h =
    let n = unsigned 12 z in
    let found = imm_found o in
    let f = i_fields w n r1 (imm_code o) rd 0x13 e (unsigned_12_small z h.2 h.3) h.1 found.1 h.0 (lit< tt) in
    let imm : imm_i w ≡ z = ap (signed 12) f.imm ∙ signed_unsigned_12 z h.2 h.3 in
    let is = imm_some w o f.opcode (rw f.funct3 found.0) in
    cc

shift_again : (w : ℕ) (o : ShiftOp) (rd r1 n : ℕ) → w ≡ word_of (ShiftImm o rd r1 n) → IsInRange (ShiftImm o rd r1 n) → instruction_of w ≡ Some (ShiftImm o rd r1 n)
shift_again w o rd r1 n e h =
    let found = shift_found o in
    let f = r_fields w (shift_codes o).0 n r1 (shift_codes o).1 rd 0x13 e found.2 h.2 h.1 found.3 h.0 (lit< tt) in
    let is = shift_some w o f.opcode (rw f.funct3 found.1) (rw (f.funct7, f.funct3) found.0) in
    cc

fence_again : (w rd r1 n : ℕ) → w ≡ word_of (Fence rd r1 n) → IsInRange (Fence rd r1 n) → instruction_of w ≡ Some (Fence rd r1 n)
fence_again w rd r1 n e h =
    let f = i_fields w n r1 0 rd 0x0f e h.2 h.1 (lit< tt) h.0 (lit< tt) in
    let is = fence_some w f.opcode f.funct3 in
    cc

lr_again : (w rd r1 : ℕ) (aq rl : Bool) → w ≡ word_of (Lr rd r1 aq rl) → IsInRange (Lr rd r1 aq rl) → instruction_of w ≡ Some (Lr rd r1 aq rl)
lr_again w rd r1 aq rl e h =
    let f = r_fields w (ordered 2 aq rl) 0 r1 2 rd 0x2f e (ordered_small 2 aq rl (lit< tt)) (lit< tt) h.1 (lit< tt) h.0 (lit< tt) in
    let five = ordered_fields w 2 aq rl (lit< tt) f.funct7 in
    let is = lr_some w f.opcode f.funct3 five.0 f.rs2 in
    cc

sc_again : (w rd r1 r2 : ℕ) (aq rl : Bool) → w ≡ word_of (Sc rd r1 r2 aq rl) → IsInRange (Sc rd r1 r2 aq rl) → instruction_of w ≡ Some (Sc rd r1 r2 aq rl)
sc_again w rd r1 r2 aq rl e h =
    let f = r_fields w (ordered 3 aq rl) r2 r1 2 rd 0x2f e (ordered_small 3 aq rl (lit< tt)) h.2 h.1 (lit< tt) h.0 (lit< tt) in
    let five = ordered_fields w 3 aq rl (lit< tt) f.funct7 in
    let is = sc_is w f.opcode f.funct3 five.0 in
    cc

amo_again : (w : ℕ) (o : AmoOp) (rd r1 r2 : ℕ) (aq rl : Bool) → w ≡ word_of (Amo o rd r1 r2 aq rl) → IsInRange (Amo o rd r1 r2 aq rl)
    → instruction_of w ≡ Some (Amo o rd r1 r2 aq rl)
amo_again w o rd r1 r2 aq rl e h =
    let found = amo_found o in
    let f = r_fields w (ordered (amo_code o) aq rl) r2 r1 2 rd 0x2f e (ordered_small (amo_code o) aq rl found.1) h.2 h.1 (lit< tt) h.0 (lit< tt) in
    let five = ordered_fields w (amo_code o) aq rl found.1 f.funct7 in
    let is = amo_some w o f.opcode f.funct3 (λ g. found.2 (sym five.0 ∙ g)) (λ g. found.3 (sym five.0 ∙ g)) (rw five.0 found.0) in
    cc

pub word_again : (i : Instr) → IsInRange i → instruction_of (word_of i) ≡ Some i
unfolding instruction_of rows
word_again (Lui rd n) h = lui_again (word_of (Lui rd n)) rd n refl h
word_again (Auipc rd n) h = auipc_again (word_of (Auipc rd n)) rd n refl h
word_again (Jal rd z) h = jal_again (word_of (Jal rd z)) rd z refl h
word_again (Jalr rd r1 z) h = jalr_again (word_of (Jalr rd r1 z)) rd r1 z refl h
word_again (Branch o r1 r2 z) h = branch_again (word_of (Branch o r1 r2 z)) o r1 r2 z refl h
word_again (Load o rd r1 z) h = load_again (word_of (Load o rd r1 z)) o rd r1 z refl h
word_again (Store o r1 r2 z) h = store_again (word_of (Store o r1 r2 z)) o r1 r2 z refl h
word_again (OpImm o rd r1 z) h = imm_again (word_of (OpImm o rd r1 z)) o rd r1 z refl h
word_again (ShiftImm o rd r1 n) h = shift_again (word_of (ShiftImm o rd r1 n)) o rd r1 n refl h
word_again (Op o rd r1 r2) h = op_again (word_of (Op o rd r1 r2)) o rd r1 r2 refl h
word_again (Fence rd r1 n) h = fence_again (word_of (Fence rd r1 n)) rd r1 n refl h
word_again Ecall h = refl
word_again Ebreak h = refl
word_again (Lr rd r1 aq rl) h = lr_again (word_of (Lr rd r1 aq rl)) rd r1 aq rl refl h
word_again (Sc rd r1 r2 aq rl) h = sc_again (word_of (Sc rd r1 r2 aq rl)) rd r1 r2 aq rl refl h
word_again (Amo o rd r1 r2 aq rl) h = amo_again (word_of (Amo o rd r1 r2 aq rl)) o rd r1 r2 aq rl refl h
word_again (Illegal Zeros) h = refl
word_again (Illegal Ones) h = refl
word_again (Illegal CycleWrite) h = refl
