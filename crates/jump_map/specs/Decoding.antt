-- Helps the code alone: the micro-ops of an image while they are made.
use Rattle.std.specs.Prelude.{◌≡◌, ℕ, List, Some, length, slice_get}
use Rattle.micro_op.specs.declared.micro_op.MicroOp.{MicroOp}
use Rattle.jump_map.specs.Image.{Cell, address_of_word, read_cell}
use Rattle.jump_map.specs.Micro.{IsMicroWord}

-- each micro-op is that of the word of its number
pub record AreMicros (image : List Cell) (micros : List MicroOp) : Type 0 where
  pub each : (k : ℕ) (c : Cell) (m : MicroOp) → slice_get image k ≡ Some c
      → slice_get micros k ≡ Some m → IsMicroWord (address_of_word k) (read_cell c).what m

-- and every word has one
pub record HasMicros (image : List Cell) (micros : List MicroOp) : Type 0 where
  pub micros_are : AreMicros image micros
  pub count : length micros ≡ length image
