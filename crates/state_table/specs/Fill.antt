-- Helps the code alone: a list with one byte at some places.
use Rattle.std.specs.Prelude.{◌≡◌, ℕ, ◌<◌, ◌≤◌, List, length, slice_index}

-- the byte is at the places from start on up to end, and the others are as before
pub record IsFilled (old new : List ℕ) (start end byte : ℕ) : Type 0 where
  pub len : length new ≡ length old
  pub inside : (k : ℕ) → start ≤ k → k < end → slice_index new k ≡ byte
  pub below : (k : ℕ) → k < start → slice_index new k ≡ slice_index old k
  pub above : (k : ℕ) → end ≤ k → slice_index new k ≡ slice_index old k
