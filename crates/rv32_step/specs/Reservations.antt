-- Reservations on one memory (RISC-V Unprivileged ISA, "Load-Reserved/Store-Conditional
-- Instructions"): the reservation set is the block of the reserved address.
use Rattle.std.specs.Prelude.{ℕ, ◌==◌, if◌then◌else◌, Option}
use Rattle.std.specs.Option.{option_map_or}
use Rattle.block_layout.specs.Layout.{Shape, block_of}
use Rattle.llsc.specs.Reservation.{cleared}
use Rattle.rv32_program.specs.Program.{line_of}

-- the reservations, where that of processor p is another
abbrev pub with_reservation : (ℕ → Option ℕ) → ℕ → Option ℕ → ℕ → Option ℕ
with_reservation held p new q = if q == p then new else held q

-- a reservation after another processor's store to an address: it ends in the address's block; an
-- address that isn't shared lies in none
abbrev pub after_other : Shape → ℕ → Option ℕ → Option ℕ
after_other layout a reserved =
    option_map_or (λ b. cleared layout b reserved) (block_of layout (line_of a)) reserved

-- the reservations after a store of processor p to an address: its own stays
abbrev pub after_store_by : Shape → ℕ → ℕ → (ℕ → Option ℕ) → ℕ → Option ℕ
after_store_by layout p a held q = if q == p then held q else after_other layout a (held q)
