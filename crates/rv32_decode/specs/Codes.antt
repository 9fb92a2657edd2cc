-- The codes of each kind of instruction: the tables of the rows, read the other way.
use Rattle.std.specs.Prelude.{ℕ, ◌+◌, ◌*◌, Bool, cond}
use Rattle.rv32_decode.specs.declared.Cond.{Cond}
use Rattle.rv32_decode.specs.declared.Cond.TheVariants.{Eq, Ne, Lt, Ge, Ltu, Geu}
use Rattle.rv32_decode.specs.declared.LoadKind.{LoadKind}
use Rattle.rv32_decode.specs.declared.LoadKind.TheVariants as load_kind
use Rattle.rv32_decode.specs.declared.Width.{Width}
use Rattle.rv32_decode.specs.declared.Width.TheVariants as width
use Rattle.rv32_decode.specs.declared.Op.{Op as Operation}
use Rattle.rv32_decode.specs.declared.Op.TheVariants as op
use Rattle.rv32_decode.specs.declared.ImmOp.{ImmOp}
use Rattle.rv32_decode.specs.declared.ImmOp.TheVariants as imm_op
use Rattle.rv32_decode.specs.declared.ShiftOp.{ShiftOp}
use Rattle.rv32_decode.specs.declared.ShiftOp.TheVariants as shift_op
use Rattle.rv32_decode.specs.declared.AmoOp.{AmoOp}
use Rattle.rv32_decode.specs.declared.AmoOp.TheVariants as amo_op
use Rattle.rv32_decode.specs.declared.IllegalWord.{IllegalWord}
use Rattle.rv32_decode.specs.declared.IllegalWord.TheVariants.{Zeros, Ones, CycleWrite}

-- funct3 of a condition
abbrev pub branch_code : Cond → ℕ
branch_code Eq = 0
branch_code Ne = 1
branch_code Lt = 4
branch_code Ge = 5
branch_code Ltu = 6
branch_code Geu = 7

-- funct3 of a load
abbrev pub load_code : LoadKind → ℕ
load_code load_kind.Byte = 0
load_code load_kind.Half = 1
load_code load_kind.Word = 2
load_code load_kind.ByteU = 4
load_code load_kind.HalfU = 5

-- funct3 of a store
abbrev pub store_code : Width → ℕ
store_code width.Byte = 0
store_code width.Half = 1
store_code width.Word = 2

-- funct3 of an operation of OP-IMM that has a 12-bit immediate
abbrev pub imm_code : ImmOp → ℕ
imm_code imm_op.Add = 0
imm_code imm_op.Slt = 2
imm_code imm_op.Sltu = 3
imm_code imm_op.Xor = 4
imm_code imm_op.Or = 6
imm_code imm_op.And = 7

-- funct7 and funct3 of a shift of OP-IMM
abbrev pub shift_codes : ShiftOp → ℕ × ℕ
shift_codes shift_op.Sll = (0, 1)
shift_codes shift_op.Srl = (0, 5)
shift_codes shift_op.Sra = (32, 5)

-- funct7 and funct3 of an operation of OP
abbrev pub op_codes : Operation → ℕ × ℕ
op_codes op.Add = (0, 0)
op_codes op.Sub = (32, 0)
op_codes op.Sll = (0, 1)
op_codes op.Slt = (0, 2)
op_codes op.Sltu = (0, 3)
op_codes op.Xor = (0, 4)
op_codes op.Srl = (0, 5)
op_codes op.Sra = (32, 5)
op_codes op.Or = (0, 6)
op_codes op.And = (0, 7)
op_codes op.Mul = (1, 0)
op_codes op.Mulh = (1, 1)
op_codes op.Mulhsu = (1, 2)
op_codes op.Mulhu = (1, 3)
op_codes op.Div = (1, 4)
op_codes op.Divu = (1, 5)
op_codes op.Rem = (1, 6)
op_codes op.Remu = (1, 7)

-- funct5 of a read-modify-write of AMO
abbrev pub amo_code : AmoOp → ℕ
amo_code amo_op.Swap = 1
amo_code amo_op.Add = 0
amo_code amo_op.Xor = 4
amo_code amo_op.And = 12
amo_code amo_op.Or = 8
amo_code amo_op.Min = 16
amo_code amo_op.Max = 20
amo_code amo_op.Minu = 24
amo_code amo_op.Maxu = 28

-- funct5, aq and rl as one field
abbrev pub ordered : ℕ → Bool → Bool → ℕ
ordered funct5 aq rl = funct5 * 4 + cond aq 2 0 + cond rl 1 0

abbrev pub illegal_word : IllegalWord → ℕ
illegal_word Zeros = 0
illegal_word Ones = 0xffffffff
illegal_word CycleWrite = 0xc0001073
