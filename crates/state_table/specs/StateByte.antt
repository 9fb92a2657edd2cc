-- State bytes (Shasta, section 3.1: the state table has an entry for each line).
use Rattle.std.specs.Prelude.{ℕ, Bool, true, false, not, ◌||◌, ◌==◌, bit_and, if◌then◌else◌}
use Rattle.state_table.specs.declared.TheConstants.{EXCLUSIVE, SHARED, INVALID, READ_ONLY, UNMAPPED, PENDING}
use Rattle.state_table.specs.declared.State.{State}
use Rattle.state_table.specs.declared.State.TheVariants.{Exclusive, Shared, Invalid, Pending}

-- the byte of each line of a block in this state
abbrev pub byte_of : State → ℕ
byte_of Exclusive = EXCLUSIVE
byte_of Shared = SHARED
byte_of Invalid = INVALID
byte_of Pending = PENDING

-- the state with this byte
abbrev pub state_with : ℕ → State
state_with byte =
    if byte == EXCLUSIVE then Exclusive
    else if byte == SHARED then Shared
    else if byte == PENDING then Pending
    else Invalid

abbrev pub can_read : State → Bool
can_read Exclusive = true
can_read Shared = true
can_read Invalid = false
can_read Pending = false

abbrev pub can_write : State → Bool
can_write Exclusive = true
can_write Shared = false
can_write Invalid = false
can_write Pending = false

abbrev pub is_shared : State → Bool
is_shared Exclusive = false
is_shared Shared = true
is_shared Invalid = false
is_shared Pending = false

-- the state of a block that the node begins to wait for: an invalid one becomes pending, and a
-- shared one stays so
abbrev pub state_in_wait : State → State
state_in_wait Exclusive = Exclusive
state_in_wait Shared = Shared
state_in_wait Invalid = Pending
state_in_wait Pending = Pending

-- the state byte says that the line is mapped
abbrev pub is_mapped_state : ℕ → Bool
is_mapped_state state = not (state == UNMAPPED)

-- that it may be read: the second bit is clear
abbrev pub is_readable_state : ℕ → Bool
is_readable_state state = bit_and state 2 == 0

-- that it may not be written by anyone
abbrev pub is_fixed_state : ℕ → Bool
is_fixed_state state = (state == READ_ONLY) || (state == UNMAPPED)

-- that it may be written
abbrev pub is_writable_state : ℕ → Bool
is_writable_state state = state == EXCLUSIVE
