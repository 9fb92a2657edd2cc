-- Instructions by their assembler names. Registers are given by their numbers, and offsets in
-- bytes.
use Rattle.std.specs.Prelude.{ℕ, ℤ, negsuc, ◌-◌, false}
use Rattle.rv32_decode.specs.declared.Cond.{Cond}
use Rattle.rv32_decode.specs.declared.Cond.TheVariants.{Eq, Ne, Lt}
use Rattle.rv32_decode.specs.declared.LoadKind.TheVariants as load_kind
use Rattle.rv32_decode.specs.declared.Width.{Width}
use Rattle.rv32_decode.specs.declared.Width.TheVariants as width
use Rattle.rv32_decode.specs.declared.Op.TheVariants as op
use Rattle.rv32_decode.specs.declared.ImmOp.TheVariants as imm_op
use Rattle.rv32_decode.specs.declared.ShiftOp.TheVariants as shift_op
use Rattle.rv32_decode.specs.declared.AmoOp.TheVariants as amo_op
use Rattle.rv32_decode.specs.declared.Instr.{Instr}
use Rattle.rv32_decode.specs.declared.Instr.TheVariants.{Lui, Jal, Branch, Load, Store, OpImm, ShiftImm, Op, Amo}

-- a number below zero
abbrev pub minus : ℕ → ℤ
minus n = negsuc (n - 1)

-- the upper 20 bits of a register, over zeros
abbrev pub lui : (rd upper : ℕ) → Instr
lui rd upper = Lui rd upper

-- the sum of a register and a number
abbrev pub addi : (rd rs : ℕ) (number : ℤ) → Instr
addi rd rs number = OpImm imm_op.Add rd rs number

-- the sum of two registers
abbrev pub add : (rd one other : ℕ) → Instr
add rd one other = Op op.Add rd one other

-- a register, shifted to the left, or to the right, with zeros
abbrev pub slli : (rd rs amount : ℕ) → Instr
slli rd rs amount = ShiftImm shift_op.Sll rd rs amount

abbrev pub srli : (rd rs amount : ℕ) → Instr
srli rd rs amount = ShiftImm shift_op.Srl rd rs amount

-- a register becomes the word so many bytes from a base
abbrev pub lw : (rd : ℕ) (offset : ℤ) (base : ℕ) → Instr
lw rd offset base = Load load_kind.Word rd base offset

-- the word, or the byte, so many bytes from a base becomes a register's
abbrev pub store : (kind : Width) (rs : ℕ) (offset : ℤ) (base : ℕ) → Instr
store kind rs offset base = Store kind base rs offset

abbrev pub sw : (rs : ℕ) (offset : ℤ) (base : ℕ) → Instr
sw rs offset base = store width.Word rs offset base

abbrev pub sb : (rs : ℕ) (offset : ℤ) (base : ℕ) → Instr
sb rs offset base = store width.Byte rs offset base

-- the word at a base becomes its sum with a register
abbrev pub amoadd : (rs base : ℕ) → Instr
amoadd rs base = Amo amo_op.Add 0 base rs false false

-- go on so many bytes away where two registers are so
abbrev pub branch : (condition : Cond) (one other : ℕ) (offset : ℤ) → Instr
branch condition one other offset = Branch condition one other offset

abbrev pub beq : (one other : ℕ) (offset : ℤ) → Instr
beq one other offset = branch Eq one other offset

abbrev pub bne : (one other : ℕ) (offset : ℤ) → Instr
bne one other offset = branch Ne one other offset

abbrev pub blt : (one other : ℕ) (offset : ℤ) → Instr
blt one other offset = branch Lt one other offset

-- go on so many bytes away
abbrev pub jump : (offset : ℤ) → Instr
jump offset = Jal 0 offset
