-- Lines of a listing: an address, a word, and the text of the word's instruction
-- (mnemonics and operands as in the RISC-V Unprivileged ISA, "RV32I", "M" and "A").
use Rattle.std.specs.Prelude.{ℕ, ◌+◌, ◌/◌, ◌%◌, ◌^◌, Bool, true, false, ℤ, List, [], ◌∷◌, ◌++◌, Option, Some, None, codes}
use Rattle.std.specs.Fmt.{decimal, signed_decimal, digits, digit_glyph}
use Rattle.rv32_decode.specs.Fields.{unsigned}
use Rattle.rv32_decode.specs.Rows.{instruction_of}
use Rattle.rv32_decode.specs.declared.Cond.{Cond}
use Rattle.rv32_decode.specs.declared.Cond.TheVariants.{Eq, Ne, Lt, Ge, Ltu, Geu}
use Rattle.rv32_decode.specs.declared.LoadKind.{LoadKind}
use Rattle.rv32_decode.specs.declared.LoadKind.TheVariants as load_kind
use Rattle.rv32_decode.specs.declared.Width.{Width}
use Rattle.rv32_decode.specs.declared.Width.TheVariants as width
use Rattle.rv32_decode.specs.declared.Op.{Op as Operation}
use Rattle.rv32_decode.specs.declared.Op.TheVariants as op
use Rattle.rv32_decode.specs.declared.ImmOp.{ImmOp}
use Rattle.rv32_decode.specs.declared.ImmOp.TheVariants as imm_op
use Rattle.rv32_decode.specs.declared.ShiftOp.{ShiftOp}
use Rattle.rv32_decode.specs.declared.ShiftOp.TheVariants as shift_op
use Rattle.rv32_decode.specs.declared.AmoOp.{AmoOp}
use Rattle.rv32_decode.specs.declared.AmoOp.TheVariants as amo_op
use Rattle.rv32_decode.specs.declared.Instr.{Instr}
use Rattle.rv32_decode.specs.declared.Instr.TheVariants.{Lui, Auipc, Jal, Jalr, Branch, Load, Store, OpImm, ShiftImm, Op, Fence, Ecall, Ebreak, Lr, Sc, Amo, Illegal}

-- Mnemonics

abbrev pub branch_name : Cond → List ℕ
branch_name Eq = codes "beq"
branch_name Ne = codes "bne"
branch_name Lt = codes "blt"
branch_name Ge = codes "bge"
branch_name Ltu = codes "bltu"
branch_name Geu = codes "bgeu"

abbrev pub load_name : LoadKind → List ℕ
load_name load_kind.Byte = codes "lb"
load_name load_kind.Half = codes "lh"
load_name load_kind.Word = codes "lw"
load_name load_kind.ByteU = codes "lbu"
load_name load_kind.HalfU = codes "lhu"

abbrev pub store_name : Width → List ℕ
store_name width.Byte = codes "sb"
store_name width.Half = codes "sh"
store_name width.Word = codes "sw"

abbrev pub imm_name : ImmOp → List ℕ
imm_name imm_op.Add = codes "addi"
imm_name imm_op.Slt = codes "slti"
imm_name imm_op.Sltu = codes "sltiu"
imm_name imm_op.Xor = codes "xori"
imm_name imm_op.Or = codes "ori"
imm_name imm_op.And = codes "andi"

abbrev pub shift_name : ShiftOp → List ℕ
shift_name shift_op.Sll = codes "slli"
shift_name shift_op.Srl = codes "srli"
shift_name shift_op.Sra = codes "srai"

abbrev pub op_name : Operation → List ℕ
op_name op.Add = codes "add"
op_name op.Sub = codes "sub"
op_name op.Sll = codes "sll"
op_name op.Slt = codes "slt"
op_name op.Sltu = codes "sltu"
op_name op.Xor = codes "xor"
op_name op.Srl = codes "srl"
op_name op.Sra = codes "sra"
op_name op.Or = codes "or"
op_name op.And = codes "and"
op_name op.Mul = codes "mul"
op_name op.Mulh = codes "mulh"
op_name op.Mulhsu = codes "mulhsu"
op_name op.Mulhu = codes "mulhu"
op_name op.Div = codes "div"
op_name op.Divu = codes "divu"
op_name op.Rem = codes "rem"
op_name op.Remu = codes "remu"

abbrev pub amo_name : AmoOp → List ℕ
amo_name amo_op.Swap = codes "amoswap.w"
amo_name amo_op.Add = codes "amoadd.w"
amo_name amo_op.Xor = codes "amoxor.w"
amo_name amo_op.And = codes "amoand.w"
amo_name amo_op.Or = codes "amoor.w"
amo_name amo_op.Min = codes "amomin.w"
amo_name amo_op.Max = codes "amomax.w"
amo_name amo_op.Minu = codes "amominu.w"
amo_name amo_op.Maxu = codes "amomaxu.w"

-- what the acquire and release bits add to a mnemonic
abbrev pub order_suffix : Bool → Bool → List ℕ
order_suffix false false = []
order_suffix true false = codes ".aq"
order_suffix false true = codes ".rl"
order_suffix true true = codes ".aqrl"

-- Operands

abbrev pub register : ℕ → List ℕ
register r = codes "x" ++ decimal r

-- a register that holds an address
abbrev pub base : ℕ → List ℕ
base r = codes "(" ++ register r ++ codes ")"

-- an address as a register and a distance from it
abbrev pub indexed : ℤ → ℕ → List ℕ
indexed imm r = signed_decimal imm ++ base r

-- the upper 20 bits, with no leading zeros
abbrev pub upper_digits : ℕ → List ℕ
upper_digits upper = codes "0x" ++ digits 16 false upper

-- the digit of the four bits from a place on
abbrev pub nibble : ℕ → ℕ → ℕ
nibble word low = digit_glyph false (word / 2 ^ low % 16)

-- a word in eight digits
unfoldable pub word_digits : ℕ → List ℕ
word_digits word =
    nibble word 28 ∷ nibble word 24 ∷ nibble word 20 ∷ nibble word 16 ∷ nibble word 12
    ∷ nibble word 8 ∷ nibble word 4 ∷ nibble word 0 ∷ []

-- the address that a distance leads to, modulo 2^32
abbrev pub target_address : ℕ → ℤ → ℕ
target_address address offset = (address + unsigned 32 offset) % 2 ^ 32

-- that address in hexadecimal
abbrev pub target : ℕ → ℤ → List ℕ
target address offset = codes "0x" ++ word_digits (target_address address offset)

-- Texts

abbrev pub with_two : List ℕ → List ℕ → List ℕ → List ℕ
with_two name first second = name ++ codes " " ++ first ++ codes ", " ++ second

abbrev pub with_three : List ℕ → List ℕ → List ℕ → List ℕ → List ℕ
with_three name first second third =
    name ++ codes " " ++ first ++ codes ", " ++ second ++ codes ", " ++ third

-- the text of an instruction at an address
abbrev pub text_of : ℕ → Instr → List ℕ
text_of address (Lui rd upper) = with_two (codes "lui") (register rd) (upper_digits upper)
text_of address (Auipc rd upper) = with_two (codes "auipc") (register rd) (upper_digits upper)
text_of address (Jal rd offset) = with_two (codes "jal") (register rd) (target address offset)
text_of address (Jalr rd rs1 imm) = with_two (codes "jalr") (register rd) (indexed imm rs1)
text_of address (Branch c rs1 rs2 offset) =
    with_three (branch_name c) (register rs1) (register rs2) (target address offset)
text_of address (Load kind rd rs1 imm) = with_two (load_name kind) (register rd) (indexed imm rs1)
text_of address (Store w rs1 rs2 imm) = with_two (store_name w) (register rs2) (indexed imm rs1)
text_of address (OpImm o rd rs1 imm) =
    with_three (imm_name o) (register rd) (register rs1) (signed_decimal imm)
text_of address (ShiftImm o rd rs1 amount) =
    with_three (shift_name o) (register rd) (register rs1) (decimal amount)
text_of address (Op o rd rs1 rs2) =
    with_three (op_name o) (register rd) (register rs1) (register rs2)
text_of address (Fence rd rs1 bits) = codes "fence"
text_of address Ecall = codes "ecall"
text_of address Ebreak = codes "ebreak"
text_of address (Lr rd rs1 aq rl) =
    with_two (codes "lr.w" ++ order_suffix aq rl) (register rd) (base rs1)
text_of address (Sc rd rs1 rs2 aq rl) =
    with_three (codes "sc.w" ++ order_suffix aq rl) (register rd) (register rs2) (base rs1)
text_of address (Amo o rd rs1 rs2 aq rl) =
    with_three (amo_name o ++ order_suffix aq rl) (register rd) (register rs2) (base rs1)
text_of address (Illegal word) = codes "illegal"

-- the text of what a word decodes to, if to anything
abbrev pub text_of_decoded : ℕ → Option Instr → List ℕ
text_of_decoded address (Some i) = text_of address i
text_of_decoded address None = codes "unknown"

-- the text of a word at an address
abbrev pub text_of_word : ℕ → ℕ → List ℕ
text_of_word address word = text_of_decoded address (instruction_of word)

-- a line of a listing, with its line feed
abbrev pub line_of : ℕ → ℕ → List ℕ
line_of address word =
    word_digits address ++ codes ": " ++ word_digits word ++ codes " "
    ++ text_of_word address word ++ codes "\n"
