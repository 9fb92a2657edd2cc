-- A program as the processors see it: the class of each line, the first content of each address,
-- the instruction at each code word, and the entry.
use Rattle.std.specs.Prelude.{◌≡◌, ℕ, ◌+◌, ◌/◌, ◌%◌, ◌^◌, ◌≤◌, Bool, true, false, ◌||◌, ◌==◌, if◌then◌else◌, Option, Some}
use Rattle.rv32_decode.specs.declared.Instr.{Instr}
use Rattle.rv32_program.specs.declared.Class.{Class}
use Rattle.rv32_program.specs.declared.Class.TheVariants.{Shared, Private, Unmapped}
use Rattle.rv32_program.specs.declared.CallKind.{CallKind}
use Rattle.rv32_program.specs.declared.CallKind.TheVariants.{Exit, Write, Unknown}

pub record Program : Type 0 where
  pub class : ℕ → Class
  pub first : ℕ → ℕ
  pub code : ℕ → Option Instr
  pub entry : ℕ

-- the line of an address: 64 bytes
abbrev pub line_of : ℕ → ℕ
line_of a = a / 64

-- the class of an address
abbrev pub class_at : Program → ℕ → Class
class_at program a = program.class (line_of a)

abbrev pub is_mapped : Class → Bool
is_mapped Unmapped = false
is_mapped c = true

-- a store may change it
abbrev pub is_writable : Class → Bool
is_writable Shared = true
is_writable Private = true
is_writable c = false

-- the call that a number in a7 names: exit is 93 and 94, write is 64
abbrev pub call_of : ℕ → CallKind
call_of number =
    if (number == 93) || (number == 94) then Exit else (if number == 64 then Write else Unknown)

-- what a program has to be before it is run
pub record IsAccepted (program : Program) : Type 0 where
  -- code words stand at multiples of four, below the private window
  pub aligned : (a : ℕ) (i : Instr) → program.code a ≡ Some i → a % 4 ≡ 0
  pub low : (a : ℕ) (i : Instr) → program.code a ≡ Some i → a + 4 ≤ 0x7fff0000
  -- the lower half alone is mapped
  pub upper : (line : ℕ) → 2 ^ 25 ≤ line → program.class line ≡ Unmapped
  -- the entry is a code word
  pub first_instruction : Instr
  pub starts : program.code program.entry ≡ Some first_instruction
