-- What the instructions of RV32IMA compute from words. A word is a number below 2 ^ 32; `signed 32`
-- reads it as two's complement, and `unsigned 32` writes it (RISC-V Unprivileged ISA; each
-- definition names its section).
use Rattle.std.specs.Prelude.{ℕ, ◌+◌, ◌-◌, ◌*◌, ◌/◌, ◌%◌, ◌^◌, min, max, Bool, not, ◌==◌, if◌then◌else◌, nat_lt, ℤ, pos, ◌*ℤ◌, int_div, int_rem, int_lt, bit_and, bit_or, bit_xor}
use Rattle.std.specs.Int.{int_min, int_max, int_shr}
use Rattle.rv32_decode.specs.Fields.{signed, unsigned}
use Rattle.rv32_decode.specs.declared.Op.{Op as Operation}
use Rattle.rv32_decode.specs.declared.Op.TheVariants as op
use Rattle.rv32_decode.specs.declared.Cond.{Cond}
use Rattle.rv32_decode.specs.declared.Cond.TheVariants.{Eq, Ne, Lt, Ge, Ltu, Geu}
use Rattle.rv32_decode.specs.declared.AmoOp.{AmoOp}
use Rattle.rv32_decode.specs.declared.AmoOp.TheVariants as amo_op
use Rattle.rv32_decode.specs.declared.LoadKind.{LoadKind}
use Rattle.rv32_decode.specs.declared.LoadKind.TheVariants as load_kind

-- ADD: the sum, of which the low 32 bits are kept
abbrev pub word_sum : ℕ → ℕ → ℕ
word_sum a b = (a + b) % 2 ^ 32

-- SUB: the difference, of which the low 32 bits are kept
abbrev pub word_difference : ℕ → ℕ → ℕ
word_difference a b = (a + (2 ^ 32 - b)) % 2 ^ 32

-- SLL: a shift has its amount in the low five bits of b
abbrev pub left_shift : ℕ → ℕ → ℕ
left_shift a b = a * 2 ^ (b % 32) % 2 ^ 32

-- SRL: zeros are shifted in
abbrev pub logical_right_shift : ℕ → ℕ → ℕ
logical_right_shift a b = a / 2 ^ (b % 32)

-- SRA: the signed number divided by the power of two and rounded down, which shifts the sign in
abbrev pub arithmetic_right_shift : ℕ → ℕ → ℕ
arithmetic_right_shift a b = unsigned 32 (int_shr (signed 32 a) (b % 32))

-- SLT, BLT: a < b as signed numbers
abbrev pub is_signed_below : ℕ → ℕ → Bool
is_signed_below a b = int_lt (signed 32 a) (signed 32 b)

-- ("Multiplication Operations") MUL: the product, of which the low 32 bits are kept
abbrev pub word_product : ℕ → ℕ → ℕ
word_product a b = a * b % 2 ^ 32

-- MULH, MULHSU, MULHU: the high 32 bits of a product, which is divided by 2 ^ 32 and rounded down
abbrev pub high_half : ℤ → ℕ
high_half product = unsigned 32 (int_shr product 32)

-- ("Division Operations") DIVU, REMU: by zero the quotient has all bits set, and the remainder is
-- the dividend
abbrev pub quotient : ℕ → ℕ → ℕ
quotient a b = if b == 0 then 2 ^ 32 - 1 else a / b

abbrev pub remainder : ℕ → ℕ → ℕ
remainder a b = if b == 0 then a else a % b

-- DIV: the quotient of signed numbers, rounded towards zero. -2 ^ 31 divided by -1 is 2 ^ 31, whose
-- word is that of -2 ^ 31; its remainder is 0
abbrev pub signed_quotient : ℕ → ℕ → ℕ
signed_quotient a b =
    if b == 0 then 2 ^ 32 - 1 else unsigned 32 (int_div (signed 32 a) (signed 32 b))

-- REM: the remainder of that quotient, with the dividend's sign
abbrev pub signed_remainder : ℕ → ℕ → ℕ
signed_remainder a b =
    if b == 0 then a else unsigned 32 (int_rem (signed 32 a) (signed 32 b))

-- the result of an operation on two registers' words, or on a register's word and an immediate's
-- ("Integer Register-Register Operations", "Integer Register-Immediate Instructions", and those of
-- the M extension above): MULH multiplies signed numbers, MULHSU a signed and an unsigned one, and
-- MULHU unsigned ones
unfoldable pub alu : Operation → ℕ → ℕ → ℕ
alu op.Add a b = word_sum a b
alu op.Sub a b = word_difference a b
alu op.Sll a b = left_shift a b
alu op.Slt a b = if is_signed_below a b then 1 else 0
alu op.Sltu a b = if nat_lt a b then 1 else 0
alu op.Xor a b = bit_xor a b
alu op.Srl a b = logical_right_shift a b
alu op.Sra a b = arithmetic_right_shift a b
alu op.Or a b = bit_or a b
alu op.And a b = bit_and a b
alu op.Mul a b = word_product a b
alu op.Mulh a b = high_half (signed 32 a *ℤ signed 32 b)
alu op.Mulhsu a b = high_half (signed 32 a *ℤ pos b)
alu op.Mulhu a b = high_half (pos a *ℤ pos b)
alu op.Div a b = signed_quotient a b
alu op.Divu a b = quotient a b
alu op.Rem a b = signed_remainder a b
alu op.Remu a b = remainder a b

-- whether a branch on two registers' words is taken ("Conditional Branches"):
-- on equal or unequal words, or on a comparison of signed or of unsigned numbers
unfoldable pub taken : Cond → ℕ → ℕ → Bool
taken Eq a b = a == b
taken Ne a b = not (a == b)
taken Lt a b = is_signed_below a b
taken Ge a b = not (is_signed_below a b)
taken Ltu a b = nat_lt a b
taken Geu a b = not (nat_lt a b)

-- the word that an AMO stores, from the old word in memory and the register's word b ("Atomic
-- Memory Operations"): MIN and MAX compare signed numbers, MINU and MAXU unsigned ones
unfoldable pub amo : AmoOp → ℕ → ℕ → ℕ
amo amo_op.Swap old b = b
amo amo_op.Add old b = word_sum old b
amo amo_op.Xor old b = bit_xor old b
amo amo_op.And old b = bit_and old b
amo amo_op.Or old b = bit_or old b
amo amo_op.Min old b = unsigned 32 (int_min (signed 32 old) (signed 32 b))
amo amo_op.Max old b = unsigned 32 (int_max (signed 32 old) (signed 32 b))
amo amo_op.Minu old b = min old b
amo amo_op.Maxu old b = max old b

-- the word that a load puts into its register, from the word whose low bits it read ("Load and
-- Store Instructions"): LB and LH read a signed number of 8 or 16 bits, LBU and LHU an unsigned one
unfoldable pub extend : LoadKind → ℕ → ℕ
extend load_kind.Byte raw = unsigned 32 (signed 8 (raw % 2 ^ 8))
extend load_kind.Half raw = unsigned 32 (signed 16 (raw % 2 ^ 16))
extend load_kind.Word raw = raw
extend load_kind.ByteU raw = raw % 2 ^ 8
extend load_kind.HalfU raw = raw % 2 ^ 16
