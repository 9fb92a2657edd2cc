-- The reservation of a processor (RISC-V Unprivileged ISA, "Load-Reserved/Store-Conditional
-- Instructions"): the address that it has reserved, or none.
use Rattle.std.specs.Prelude.{ℕ, ◌/◌, Bool, false, ◌==◌, if◌then◌else◌, Option, Some, None}
use Rattle.block_layout.specs.Layout.{Shape, has_line}

-- this address is reserved
abbrev pub holds : Option ℕ → ℕ → Bool
holds None address = false
holds (Some reserved) address = reserved == address

-- the reservation after a block was taken away: it ends where its address is in the block
abbrev pub cleared : Shape → ℕ → Option ℕ → Option ℕ
cleared layout b None = None
cleared layout b (Some address) = if has_line layout b (address / 64) then None else Some address
