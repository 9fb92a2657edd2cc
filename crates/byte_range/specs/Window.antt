-- The private window, 0x7fff0000 to 0x7fffffff, of which each processor has bytes of its own.
use Rattle.std.specs.Prelude.{◌≡◌, ℕ, Bool, ◌&&◌, nat_le, nat_lt, length}
use Rattle.byte_range.specs.Range.{Range, memory_of}

-- the address is in the window
abbrev pub is_in_window : ℕ → Bool
is_in_window a = nat_le 0x7fff0000 a && nat_lt a 0x80000000

-- the range is the window
pub record IsWindow (r : Range) : Type 0 where
  pub base : r.base ≡ 0x7fff0000
  pub len : length r.bytes ≡ 0x10000

-- the bytes of the window, with zeros elsewhere
abbrev pub window_memory : Range → ℕ → ℕ
window_memory r = memory_of r (λ _. 0)
