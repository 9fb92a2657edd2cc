-- Fields of an instruction word, and the immediates that the formats make of them
-- (RISC-V Unprivileged ISA, "Base Instruction Formats" and "Immediate Encoding Variants").
use Rattle.std.specs.Prelude.{ℕ, ◌+◌, ◌-◌, ◌*◌, ◌/◌, ◌%◌, ◌^◌, Bool, ◌==◌, cond, nat_lt, ℤ, pos, negsuc}

-- the bits of a word from a place on, so many of them
abbrev pub field : ℕ → ℕ → ℕ → ℕ
field word low width = word / 2 ^ low % 2 ^ width

-- one bit of a word
abbrev pub bit : ℕ → ℕ → Bool
bit word place = field word place 1 == 1

-- a number of so many bits, read as two's complement
abbrev pub signed : ℕ → ℕ → ℤ
signed width n = cond (nat_lt n (2 ^ (width - 1))) (pos n) (negsuc (2 ^ width - 1 - n))

-- a signed number as so many bits of two's complement
abbrev pub unsigned : ℕ → ℤ → ℕ
unsigned width (pos n) = n
unsigned width (negsuc n) = 2 ^ width - 1 - n

-- the immediate of format I: bits 31 to 20
abbrev pub imm_i : ℕ → ℤ
imm_i word = signed 12 (field word 20 12)

-- the immediate of format S: bits 31 to 25, then 11 to 7
abbrev pub imm_s : ℕ → ℤ
imm_s word = signed 12 (field word 25 7 * 2 ^ 5 + field word 7 5)

-- the immediate of format B: bits 31, 7, 30 to 25, 11 to 8, and a zero
abbrev pub imm_b : ℕ → ℤ
imm_b word =
    signed 13 (field word 31 1 * 2 ^ 12 + field word 7 1 * 2 ^ 11 + field word 25 6 * 2 ^ 5
    + field word 8 4 * 2)

-- the immediate of format J: bits 31, 19 to 12, 20, 30 to 21, and a zero
abbrev pub imm_j : ℕ → ℤ
imm_j word =
    signed 21 (field word 31 1 * 2 ^ 20 + field word 12 8 * 2 ^ 12 + field word 20 1 * 2 ^ 11
    + field word 21 10 * 2)
