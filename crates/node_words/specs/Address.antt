-- Helps the code alone: positions as indices.
use Rattle.std.specs.Prelude.{ℕ}
use Rattle.node_memory.specs.micro_op.Micro.{index_address}
use Rattle.node_memory.specs.jump_map.Image.{image_base}

-- the address of the word with an index
abbrev pub word_address : ℕ → ℕ
word_address k = index_address image_base k
