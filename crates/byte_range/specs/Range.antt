-- A range of bytes that starts at an address.
use Rattle.std.specs.Prelude.{ℕ, ◌+◌, ◌-◌, Bool, if◌then◌else◌, ◌&&◌, nat_le, nat_lt, List, length, slice_index}

pub record Range : Type 0 where
  pub base : ℕ
  pub bytes : List ℕ

-- the range has a byte for the address
abbrev pub holds : Range → ℕ → Bool
holds range a = nat_le range.base a && nat_lt a (range.base + length range.bytes)

-- the range's byte where it holds the address, and what is outside of it elsewhere
abbrev pub byte_or : Range → (ℕ → ℕ) → ℕ → ℕ
byte_or range outside a =
    if holds range a then slice_index range.bytes (a - range.base) else outside a

-- a memory that is the range, with what is outside of it
unfoldable pub memory_of : Range → (ℕ → ℕ) → ℕ → ℕ
memory_of range outside a = byte_or range outside a
