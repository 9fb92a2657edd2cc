-- The texts of instructions with numbers of any size, and with targets as they are written. The
-- forms and the mnemonics are those of a listing.
use Rattle.std.specs.Prelude.{◌≡◌, ℕ, suc, false, ℤ, pos, negsuc, List, [], ◌++◌, codes}
use Rattle.std.specs.Fmt.{digits_onto}
use Rattle.rv32_decode.specs.declared.Cond.{Cond}
use Rattle.rv32_decode.specs.declared.ShiftOp.{ShiftOp}
use Rattle.rv32_decode.specs.declared.Instr.{Instr}
use Rattle.rv32_decode.specs.declared.Instr.TheVariants.{Lui, Auipc, Jal, Jalr, Branch, Load, Store, OpImm, ShiftImm, Op, Fence, Ecall, Ebreak, Lr, Sc, Amo, Illegal}
use Rattle.rv32_decode.specs.declared.IllegalWord.TheVariants.{Zeros, Ones, CycleWrite}
use Rattle.rv32_text.specs.Listing.{branch_name, load_name, store_name, imm_name, shift_name, op_name, amo_name, order_suffix, with_two, with_three}

-- a number in a base, in lower-case digits, however many, with no leading zeros
unfoldable pub numeral : ℕ → ℕ → List ℕ
numeral base n = digits_onto (suc n) base false n []

-- the same in decimal, with `-` where it is negative
abbrev pub signed_numeral : ℤ → List ℕ
signed_numeral (pos n) = numeral 10 n
signed_numeral (negsuc n) = codes "-" ++ numeral 10 (suc n)

abbrev pub register : ℕ → List ℕ
register r = codes "x" ++ numeral 10 r

-- a register that holds an address
abbrev pub base : ℕ → List ℕ
base r = codes "(" ++ register r ++ codes ")"

-- an address as a register and a distance from it
abbrev pub indexed : ℤ → ℕ → List ℕ
indexed imm r = signed_numeral imm ++ base r

-- the upper bits
abbrev pub upper_digits : ℕ → List ℕ
upper_digits upper = codes "0x" ++ numeral 16 upper

-- the target of a jump: the digits of an address, or a name
pub data Target : Type 0 where
  Address : (digits : List ℕ) → Target
  Name : (name : List ℕ) → Target

abbrev pub target_text : Target → List ℕ
target_text (Address digits) = codes "0x" ++ digits
target_text (Name name) = name

-- an instruction as it is written: with the numbers of its text, whatever their size, or with the
-- target of a jump or a branch; a shift by a number below zero, which no instruction has, stands
-- apart, by how far the number is below -1
pub data Written : Type 0 where
  Plain : (i : Instr) → Written
  NegativeShift : (o : ShiftOp) (rd rs1 below : ℕ) → Written
  Jump : (rd : ℕ) (to : Target) → Written
  Conditional : (c : Cond) (rs1 rs2 : ℕ) (to : Target) → Written

-- a shift by a number of either sign
abbrev pub shift_by : ShiftOp → (rd rs1 : ℕ) → ℤ → Written
shift_by o rd rs1 (pos n) = Plain (ShiftImm o rd rs1 n)
shift_by o rd rs1 (negsuc n) = NegativeShift o rd rs1 n

-- an instruction whose text has no target, and that one of those with its text whose word is
-- written: FENCE for all accesses (fm 0, predecessors and successors IORW), and the word of zeros
abbrev pub IsPlain : Instr → Type 0
IsPlain (Jal rd offset) = ⊥
IsPlain (Branch c rs1 rs2 offset) = ⊥
IsPlain (Fence rd rs1 bits) = (rd ≡ 0) × (rs1 ≡ 0) × (bits ≡ 0xff)
IsPlain (Illegal Zeros) = Unit {0}
IsPlain (Illegal Ones) = ⊥
IsPlain (Illegal CycleWrite) = ⊥
IsPlain i = Unit {0}

-- the text of an instruction without a target
abbrev pub plain_text : Instr → List ℕ
plain_text (Lui rd upper) = with_two (codes "lui") (register rd) (upper_digits upper)
plain_text (Auipc rd upper) = with_two (codes "auipc") (register rd) (upper_digits upper)
plain_text (Jal rd offset) = []
plain_text (Jalr rd rs1 imm) = with_two (codes "jalr") (register rd) (indexed imm rs1)
plain_text (Branch c rs1 rs2 offset) = []
plain_text (Load kind rd rs1 imm) = with_two (load_name kind) (register rd) (indexed imm rs1)
plain_text (Store w rs1 rs2 imm) = with_two (store_name w) (register rs2) (indexed imm rs1)
plain_text (OpImm o rd rs1 imm) =
    with_three (imm_name o) (register rd) (register rs1) (signed_numeral imm)
plain_text (ShiftImm o rd rs1 amount) =
    with_three (shift_name o) (register rd) (register rs1) (numeral 10 amount)
plain_text (Op o rd rs1 rs2) = with_three (op_name o) (register rd) (register rs1) (register rs2)
plain_text (Fence rd rs1 bits) = codes "fence"
plain_text Ecall = codes "ecall"
plain_text Ebreak = codes "ebreak"
plain_text (Lr rd rs1 aq rl) =
    with_two (codes "lr.w" ++ order_suffix aq rl) (register rd) (base rs1)
plain_text (Sc rd rs1 rs2 aq rl) =
    with_three (codes "sc.w" ++ order_suffix aq rl) (register rd) (register rs2) (base rs1)
plain_text (Amo o rd rs1 rs2 aq rl) =
    with_three (amo_name o ++ order_suffix aq rl) (register rd) (register rs2) (base rs1)
plain_text (Illegal word) = codes "illegal"

-- the text of an instruction as it is written
abbrev pub written_text : Written → List ℕ
written_text (Plain i) = plain_text i
written_text (NegativeShift o rd rs1 below) =
    with_three (shift_name o) (register rd) (register rs1) (signed_numeral (negsuc below))
written_text (Jump rd to) = with_two (codes "jal") (register rd) (target_text to)
written_text (Conditional c rs1 rs2 to) =
    with_three (branch_name c) (register rs1) (register rs2) (target_text to)
