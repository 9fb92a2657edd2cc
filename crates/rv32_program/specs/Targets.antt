-- Where direct jumps and branches go
-- (RISC-V Unprivileged ISA, "Control Transfer Instructions").
use Rattle.std.specs.Prelude.{ℕ, ℤ, ◌+◌, ◌%◌, ◌^◌, ◌==◌, if◌then◌else◌, Option, Some, None, option_and_then}
use Rattle.rv32_decode.specs.Fields.{unsigned}
use Rattle.rv32_decode.specs.declared.Instr.{Instr}
use Rattle.rv32_decode.specs.declared.Instr.TheVariants.{Jal, Branch}

-- an address that is this far from another
abbrev pub offset_address : ℕ → ℤ → ℕ
offset_address a offset = (a + unsigned 32 offset) % 2 ^ 32

-- where a direct jump or branch at a goes
abbrev pub target_of : Instr → ℕ → Option ℕ
target_of (Jal rd offset) a = Some (offset_address a offset)
target_of (Branch c rs1 rs2 offset) a = Some (offset_address a offset)
target_of i a = None

-- the address, where it is a multiple of four
abbrev pub aligned : ℕ → Option ℕ
aligned a = if a % 4 == 0 then Some a else None

-- where a direct jump or branch goes, where that is a multiple of four
abbrev pub aligned_target : Instr → ℕ → Option ℕ
aligned_target i a = option_and_then aligned (target_of i a)
