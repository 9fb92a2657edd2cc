-- Helps the code alone: bytes of a list that are overwritten.
use Rattle.std.specs.Prelude.{◌≡◌, ℕ, ◌+◌, ◌-◌, ◌*◌, ◌/◌, if◌then◌else◌, ◌==◌, ◌&&◌, nat_le, nat_lt, true, List, ◌++◌, length, take, drop, slice_index}
use Rattle.block_layout.specs.Layout.{Shape, is_shared, shared_lines}
use Rattle.flag_memory.specs.Copy.{place}
use Rattle.flag_memory.specs.FirstBytes.{FirstRange, first_byte}

-- the list with these bytes from a place on
abbrev pub overwritten : List ℕ → ℕ → List ℕ → List ℕ
overwritten bytes start xs = take start bytes ++ (xs ++ drop (start + length xs) bytes)

-- a byte is written at an address, where its line is shared
pub record IsByteWritten (layout : Shape) (old new : List ℕ) (address byte : ℕ) : Type 0 where
  pub len : length new ≡ length old
  pub bytes : (a : ℕ) → is_shared layout (a / 64) ≡ true
      → slice_index new (place layout a)
      ≡ (if a == address then byte else slice_index old (place layout a))

-- the first so many bytes of a list are written at the addresses from one on, where they are shared
pub record IsWritten (layout : Shape) (old new : List ℕ) (address count : ℕ) (from : List ℕ)
    : Type 0 where
  pub len : length new ≡ length old
  pub bytes : (a : ℕ) → is_shared layout (a / 64) ≡ true
      → slice_index new (place layout a)
      ≡ (if nat_le address a && nat_lt a (address + count)
      then slice_index from (a - address)
      else slice_index old (place layout a))

-- the first contents stand at all addresses that are shared
pub record AreWritten (layout : Shape) (new : List ℕ) (rs : List FirstRange) : Type 0 where
  pub len : length new ≡ 64 * shared_lines layout
  pub bytes : (a : ℕ) → is_shared layout (a / 64) ≡ true
      → slice_index new (place layout a) ≡ first_byte rs a
