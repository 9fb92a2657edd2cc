-- Helps the code alone: where names end.
use Rattle.std.specs.Prelude.{◌≡◌, ℕ, ◌-◌, ◌<◌, ◌≤◌, ◌==◌, Bool, List, length, drop, position, slice_index, Some, None}

abbrev pub is_zero : ℕ → Bool
is_zero byte = byte == 0

-- for each offset in the names up to the last zero byte, where the first zero byte is from there
-- on; there is none after
pub record AreEnds (names ends : List ℕ) : Type 0 where
  pub found : (offset : ℕ) → offset < length ends
      → position is_zero (drop offset names) ≡ Some (slice_index ends offset - offset)
  pub behind : (offset : ℕ) → offset < length ends → offset ≤ slice_index ends offset
  pub within : (offset : ℕ) → offset < length ends → slice_index ends offset ≤ length names
  pub none : (offset : ℕ) → length ends ≤ offset → position is_zero (drop offset names) ≡ None
