-- The instruction of a word, by what was read of it.
use Rattle.std.proofs.Common.{◌≡◌, ◌≢◌, ℕ, ◌^◌, ◌<◌, refl, sym, ◌∙◌, arith, ◌⊎◌, inl, inr}
use Rattle.std.specs.Prelude.{Some, None}
use Rattle.std.proofs.lemmas.Bool.Decides.{nat_tests}
use Rattle.rv32_decode.specs.Fields.{field, bit, imm_i, imm_s, imm_b}
use Rattle.rv32_decode.specs.Rows.{instruction_of, rows, branch_table, load_table, store_table, imm_table, shift_table, op_table, amo_table}
use Rattle.rv32_decode.specs.Tables.{entry, entry_of_two}
use Rattle.rv32_decode.specs.declared.Cond.{Cond}
use Rattle.rv32_decode.specs.declared.LoadKind.{LoadKind}
use Rattle.rv32_decode.specs.declared.Width.{Width}
use Rattle.rv32_decode.specs.declared.Op.{Op as Operation}
use Rattle.rv32_decode.specs.declared.ImmOp.{ImmOp}
use Rattle.rv32_decode.specs.declared.ShiftOp.{ShiftOp}
use Rattle.rv32_decode.specs.declared.AmoOp.{AmoOp}
use Rattle.rv32_decode.specs.declared.IllegalWord.TheVariants.{Zeros, Ones, CycleWrite}
use Rattle.rv32_decode.specs.declared.Instr.TheVariants.{Jalr, Branch, Load, Store, OpImm, ShiftImm, Op, Fence, Ecall, Ebreak, Lr, Amo, Illegal}
use Rattle.rv32_decode.proofs.Groups.{jalr_is, branch_is, load_is, store_is, imm_is, shift_is, op_is, fence_is, lr_is, amo_is, system_is, zeros_is, ones_is, sc_is}

pub jalr_some : (w : ℕ) → field w 0 7 ≡ 0x67 → field w 12 3 ≡ 0 → instruction_of w ≡ Some (Jalr (field w 7 5) (field w 15 5) (imm_i w))
jalr_some w e f = jalr_is w e ∙ rw f refl

pub jalr_none : (w : ℕ) → field w 0 7 ≡ 0x67 → field w 12 3 ≢ 0 → instruction_of w ≡ None
jalr_none w e f = jalr_is w e ∙ grind (arith, nat_tests)

pub branch_some : (w : ℕ) (o : Cond) → field w 0 7 ≡ 0x63 → entry branch_table (field w 12 3) ≡ Some o
    → Some (Branch o (field w 15 5) (field w 20 5) (imm_b w)) ≡ instruction_of w
branch_some w o e f = sym (branch_is w e ∙ rw f refl)

pub branch_none : (w : ℕ) → field w 0 7 ≡ 0x63 → entry branch_table (field w 12 3) ≡ None → instruction_of w ≡ None
branch_none w e f = branch_is w e ∙ rw f refl

pub load_some : (w : ℕ) (o : LoadKind) → field w 0 7 ≡ 0x03 → entry load_table (field w 12 3) ≡ Some o
    → Some (Load o (field w 7 5) (field w 15 5) (imm_i w)) ≡ instruction_of w
load_some w o e f = sym (load_is w e ∙ rw f refl)

pub load_none : (w : ℕ) → field w 0 7 ≡ 0x03 → entry load_table (field w 12 3) ≡ None → instruction_of w ≡ None
load_none w e f = load_is w e ∙ rw f refl

pub store_some : (w : ℕ) (o : Width) → field w 0 7 ≡ 0x23 → entry store_table (field w 12 3) ≡ Some o
    → Some (Store o (field w 15 5) (field w 20 5) (imm_s w)) ≡ instruction_of w
store_some w o e f = sym (store_is w e ∙ rw f refl)

pub store_none : (w : ℕ) → field w 0 7 ≡ 0x23 → entry store_table (field w 12 3) ≡ None → instruction_of w ≡ None
store_none w e f = store_is w e ∙ rw f refl

pub imm_some : (w : ℕ) (o : ImmOp) → field w 0 7 ≡ 0x13 → entry imm_table (field w 12 3) ≡ Some o
    → Some (OpImm o (field w 7 5) (field w 15 5) (imm_i w)) ≡ instruction_of w
imm_some w o e f = sym (imm_is w o e f)

pub shift_some : (w : ℕ) (o : ShiftOp) → field w 0 7 ≡ 0x13 → entry imm_table (field w 12 3) ≡ None
    → entry_of_two shift_table (field w 25 7) (field w 12 3) ≡ Some o
    → Some (ShiftImm o (field w 7 5) (field w 15 5) (field w 20 5)) ≡ instruction_of w
shift_some w o e none f = sym (shift_is w e none ∙ rw f refl)

pub shift_none : (w : ℕ) → field w 0 7 ≡ 0x13 → entry imm_table (field w 12 3) ≡ None
    → entry_of_two shift_table (field w 25 7) (field w 12 3) ≡ None → instruction_of w ≡ None
shift_none w e none f = shift_is w e none ∙ rw f refl

pub op_some : (w : ℕ) (o : Operation) → field w 0 7 ≡ 0x33 → entry_of_two op_table (field w 25 7) (field w 12 3) ≡ Some o
    → Some (Op o (field w 7 5) (field w 15 5) (field w 20 5)) ≡ instruction_of w
op_some w o e f = sym (op_is w e ∙ rw f refl)

pub op_none : (w : ℕ) → field w 0 7 ≡ 0x33 → entry_of_two op_table (field w 25 7) (field w 12 3) ≡ None → instruction_of w ≡ None
op_none w e f = op_is w e ∙ rw f refl

pub fence_some : (w : ℕ) → field w 0 7 ≡ 0x0f → field w 12 3 ≡ 0 → instruction_of w ≡ Some (Fence (field w 7 5) (field w 15 5) (field w 20 12))
fence_some w e f = fence_is w e ∙ rw f refl

pub fence_none : (w : ℕ) → field w 0 7 ≡ 0x0f → field w 12 3 ≢ 0 → instruction_of w ≡ None
fence_none w e f = fence_is w e ∙ grind (arith, nat_tests)

pub lr_some : (w : ℕ) → field w 0 7 ≡ 0x2f → field w 12 3 ≡ 2 → field w 27 5 ≡ 2 → field w 20 5 ≡ 0
    → instruction_of w ≡ Some (Lr (field w 7 5) (field w 15 5) (bit w 26) (bit w 25))
lr_some w e wide f r = lr_is w e wide f ∙ rw r refl

pub lr_none : (w : ℕ) → field w 0 7 ≡ 0x2f → field w 12 3 ≡ 2 → field w 27 5 ≡ 2 → field w 20 5 ≢ 0 → instruction_of w ≡ None
lr_none w e wide f r = lr_is w e wide f ∙ grind (arith, nat_tests)

pub amo_some : (w : ℕ) (o : AmoOp) → field w 0 7 ≡ 0x2f → field w 12 3 ≡ 2 → field w 27 5 ≢ 2 → field w 27 5 ≢ 3 → entry amo_table (field w 27 5) ≡ Some o
    → Some (Amo o (field w 7 5) (field w 15 5) (field w 20 5) (bit w 26) (bit w 25)) ≡ instruction_of w
amo_some w o e wide two three f = sym (amo_is w e wide two three ∙ rw f refl)

pub amo_none : (w : ℕ) → field w 0 7 ≡ 0x2f → field w 12 3 ≡ 2 → field w 27 5 ≢ 2 → field w 27 5 ≢ 3 → entry amo_table (field w 27 5) ≡ None
    → instruction_of w ≡ None
amo_none w e wide two three f = amo_is w e wide two three ∙ rw f refl

pub ecall_is : (w : ℕ) → w ≡ 0x73 → instruction_of w ≡ Some Ecall
unfolding instruction_of rows
ecall_is w e = rw e refl

pub ebreak_is : (w : ℕ) → w ≡ 0x100073 → instruction_of w ≡ Some Ebreak
unfolding instruction_of rows
ebreak_is w e = rw e refl

pub cycle_write_is : (w : ℕ) → w ≡ 0xc0001073 → instruction_of w ≡ Some (Illegal CycleWrite)
unfolding instruction_of rows
cycle_write_is w e = rw e refl

pub system_none : (w : ℕ) → field w 0 7 ≡ 0x73 → w < 2 ^ 32 → w ≢ 0x73 → w ≢ 0x100073 → w ≢ 0xc0001073 → instruction_of w ≡ None
system_none w e l a b c = system_is w l e ∙ grind (arith, nat_tests)

pub all_zeros_is : (w : ℕ) → w ≡ 0 → instruction_of w ≡ Some (Illegal Zeros)
unfolding instruction_of rows
all_zeros_is w e = rw e refl

pub all_ones_is : (w : ℕ) → w ≡ 0xffffffff → instruction_of w ≡ Some (Illegal Ones)
unfolding instruction_of rows
all_ones_is w e = rw e refl

pub illegal_none : (w : ℕ) → (field w 0 7 ≡ 0) ⊎ (field w 0 7 ≡ 0x7f) → w < 2 ^ 32 → w ≢ 0 → w ≢ 0xffffffff → instruction_of w ≡ None
illegal_none w (inl e) l a b = zeros_is w l e ∙ grind (arith, nat_tests)
illegal_none w (inr e) l a b = ones_is w l e ∙ grind (arith, nat_tests)

-- the cases of OP-IMM, of AMO, of SYSTEM and of the illegal words
pub ruleset immediates = (imm_some, shift_some, shift_none)

pub ruleset atomics = (sc_is, amo_some, amo_none)

pub ruleset system_words = (ecall_is, ebreak_is, cycle_write_is, system_none)

pub ruleset illegal_words = (all_zeros_is, all_ones_is, illegal_none)
