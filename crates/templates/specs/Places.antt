-- The places of a program: the addresses that have a sequence in its rewritten code.
use Rattle.std.specs.Prelude.{◌≡◌, ℕ, ◌+◌, ◌%◌, ◌⊎◌, List, Contains, Option, Some, None, IsSome}
use Rattle.rv32_decode.specs.declared.Instr.{Instr}
use Rattle.rv32_program.specs.Targets.{target_of}

-- an address, a multiple of four, that holds no code word, but is next to one or is where a direct
-- jump goes
pub record IsStop (code : ℕ → Option Instr) (a : ℕ) : Type 0 where
  pub aligned : a % 4 ≡ 0
  pub no_code : code a ≡ None
  pub from : ℕ
  pub instruction : Instr
  pub there : code from ≡ Some instruction
  pub leads : (a ≡ from + 4) ⊎ (target_of instruction from ≡ Some a)

-- a place is the address of a code word, or a stop
abbrev pub IsPlace : (ℕ → Option Instr) → ℕ → Type 0
IsPlace code a = IsSome (code a) ⊎ IsStop code a

-- the numbers are the places of the code
pub record HasPlaces (code : ℕ → Option Instr) (places : List ℕ) : Type 0 where
  pub complete : (a : ℕ) → IsPlace code a → Contains places a
  pub sound : (a : ℕ) → Contains places a → IsPlace code a
