-- Helps the code alone: where a word stores, and what becomes of a reservation then, or once a
-- block was given up.
use Rattle.std.specs.Prelude.{ℕ, true, false, Option, Some, None}
use Rattle.block_layout.specs.Layout.{Shape}
use Rattle.llsc.specs.Reservation.{cleared}
use Rattle.rv32_step.specs.Reservations.{after_other}
use Rattle.rv32_step.specs.OneMemory.{Access, Nothing, Reads, Writes, WritesIf, Exchanges}

-- the address at which an access stores
abbrev pub stored_by : Access → Option ℕ
stored_by Nothing = None
stored_by (Reads kind a value) = None
stored_by (Writes width a value) = Some a
stored_by (WritesIf a value true) = Some a
stored_by (WritesIf a value false) = None
stored_by (Exchanges a old new) = Some a

-- the reservation of another lane after a store, if there is one
abbrev pub reserved_after : Shape → (stored : Option ℕ) → Option ℕ → Option ℕ
reserved_after layout None reserved = reserved
reserved_after layout (Some a) reserved = after_other layout a reserved

-- a reservation after a block was given up, if one was
abbrev pub cleared_by : Shape → (given : Option ℕ) → Option ℕ → Option ℕ
cleared_by layout None reserved = reserved
cleared_by layout (Some b) reserved = cleared layout b reserved
