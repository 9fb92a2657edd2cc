-- A buffer, and a pool of buffers.
use Rattle.std.specs.Prelude.{ℕ, ◌+◌, ◌-◌, List, []}

-- a buffer: the bytes that it holds, and how many it has room for
pub record Buffer : Type 0 where
  pub bytes : List ℕ
  pub room : ℕ

-- a buffer that holds no bytes
abbrev pub empty_buffer : ℕ → Buffer
empty_buffer room = record { bytes = []; room = room }

-- a pool: how many of its slots have a buffer, how many slots it has, and for how many bytes each
-- of its buffers has room
pub record Slots : Type 0 where
  pub free : ℕ
  pub slots : ℕ
  pub bytes : ℕ

-- the pool with one buffer more
abbrev pub one_more : Slots → Slots
one_more p = record p { free = p.free + 1 }

-- the pool with one buffer less
abbrev pub one_less : Slots → Slots
one_less p = record p { free = p.free - 1 }
