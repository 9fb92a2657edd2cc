-- Live registers, by paths: a register is live at an address where some path from it reaches a use
-- of the register before a definition of it.
use Rattle.std.specs.Prelude.{◌≡◌, ℕ, ◌+◌, ◌⊎◌, Bool, true, false, IsTrue, Contains, Option, Some}
use Rattle.rv32_decode.specs.Registers.{sources, destination}
use Rattle.rv32_decode.specs.declared.Instr.{Instr}
use Rattle.rv32_decode.specs.declared.Instr.TheVariants.{Jal, Jalr, Branch, Ecall, Ebreak, Illegal}
use Rattle.rv32_program.specs.Targets.{aligned_target}

-- what follows an indirect jump, a call or a trap may read every register
abbrev pub uses_all : Instr → Bool
uses_all (Jalr rd rs1 imm) = true
uses_all Ecall = true
uses_all Ebreak = true
uses_all (Illegal word) = true
uses_all i = false

-- the instruction uses the register
abbrev pub Uses : Instr → ℕ → Type 0
Uses i r = IsTrue (uses_all i) ⊎ Contains (sources i) r

-- the instruction has no direct successor that is known: an indirect jump, or a trap
abbrev pub leaves_code : Instr → Bool
leaves_code (Jalr rd rs1 imm) = true
leaves_code Ebreak = true
leaves_code (Illegal word) = true
leaves_code i = false

-- b is a direct successor of the instruction at a; a target that isn't a multiple of four is none
abbrev pub Next : Instr → ℕ → ℕ → Type 0
Next (Jal rd offset) a b = aligned_target (Jal rd offset) a ≡ Some b
Next (Branch c rs1 rs2 offset) a b =
    (b ≡ a + 4) ⊎ (aligned_target (Branch c rs1 rs2 offset) a ≡ Some b)
Next (Jalr rd rs1 imm) a b = ⊥
Next Ebreak a b = ⊥
Next (Illegal word) a b = ⊥
Next i a b = b ≡ a + 4

-- register r is live at an address of this code; an address that holds no code uses nothing
pub data Live (code : ℕ → Option Instr) (r : ℕ) : ℕ → Type 0 where
  uses : {a : ℕ} (i : Instr) → code a ≡ Some i → Uses i r → Live code r a
  passes : {a : ℕ} (i : Instr) (b : ℕ) → code a ≡ Some i → (destination i ≡ Some r → ⊥)
      → Next i a b → Live code r b → Live code r a

-- register r is dead after the instruction at a: it is live at no direct successor, and the
-- instruction doesn't leave the code that is known
pub record IsDeadAfter (code : ℕ → Option Instr) (r a : ℕ) (i : Instr) : Type 0 where
  pub stays : IsTrue (leaves_code i) → ⊥
  pub dead : (b : ℕ) → Next i a b → Live code r b → ⊥

-- register r is dead at the instruction at a: the instruction doesn't use it, and defines it or it
-- is dead after; so none is dead where every register is used
pub record IsDeadAt (code : ℕ → Option Instr) (r a : ℕ) (i : Instr) : Type 0 where
  pub unused : Uses i r → ⊥
  pub dead : (destination i ≡ Some r) ⊎ IsDeadAfter code r a i
