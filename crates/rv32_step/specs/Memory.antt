-- What the memory of a processor gives and takes, by the class of a line.
use Rattle.std.specs.Prelude.{ℕ}
use Rattle.rv32_decode.specs.Widths.{width_of}
use Rattle.rv32_decode.specs.declared.LoadKind.{LoadKind}
use Rattle.rv32_ops.specs.Operations.{extend}
use Rattle.byte_range.specs.Memory.{raw}
use Rattle.rv32_program.specs.declared.Class.{Class}
use Rattle.rv32_program.specs.declared.Class.TheVariants.{Shared, ReadOnly, Private, Unmapped}

-- what a load gives
abbrev pub load_value : LoadKind → (ℕ → ℕ) → ℕ → ℕ
load_value k memory a = extend k (raw (width_of k) memory a)

-- the byte of an address of this class, where the shared memory, the program and the private window
-- have these, and nothing else is there
abbrev pub byte_by : Class → ℕ → ℕ → ℕ → ℕ → ℕ
byte_by Shared shared first private nothing = shared
byte_by ReadOnly shared first private nothing = first
byte_by Private shared first private nothing = private
byte_by Unmapped shared first private nothing = nothing

-- a store into a line of this class changes the shared bytes
abbrev pub shared_after : Class → (ℕ → ℕ) → (ℕ → ℕ) → ℕ → ℕ
shared_after Shared old new = new
shared_after c old new = old

-- or the private bytes
abbrev pub private_after : Class → (ℕ → ℕ) → (ℕ → ℕ) → ℕ → ℕ
private_after Private old new = new
private_after c old new = old
