-- What contracts see of a node's states.
use Rattle.std.specs.Prelude.{◌≡◌, ℕ, ◌+◌, ◌<◌, if◌then◌else◌, nat_lt, List, length, slice_index, Option, None, Some}
use Rattle.block_layout.specs.Layout.{Shape, IsValid, blocks, lines, start, block_of, shared_lines}
use Rattle.state_table.specs.declared.State.{State}
use Rattle.state_table.specs.declared.State.TheVariants.{Invalid}
use Rattle.state_table.specs.declared.classes.LineClass.{LineClass}
use Rattle.state_table.specs.StateByte.{byte_of, state_with}
use Rattle.state_table.specs.LineClasses.{class_byte}

-- the layout, the bytes of the lines that aren't shared, and those of the shared lines, ascending
pub record States : Type 0 where
  pub layout : Shape
  pub program : List LineClass
  pub bytes : List ℕ

-- the state of a block of the layout: its first line has the byte of it
abbrev pub state_in : Shape → List ℕ → ℕ → State
state_in layout bytes b =
    if nat_lt b (blocks layout) then state_with (slice_index bytes (start layout b)) else Invalid

abbrev pub state_of : States → ℕ → State
state_of s b = state_in s.layout s.bytes b

-- the byte of a line: a shared line has that of its block's state, another that of its class
abbrev pub line_byte_in : States → ℕ → Option ℕ → ℕ
line_byte_in s line None = class_byte s.program line
line_byte_in s line (Some b) = byte_of (state_of s b)

abbrev pub line_byte : States → ℕ → ℕ
line_byte s line = line_byte_in s line (block_of s.layout line)

-- each line of a block has the byte of the block's state
pub record AreStates (layout : Shape) (bytes : List ℕ) : Type 0 where
  pub valid : IsValid layout
  pub len : length bytes ≡ shared_lines layout
  pub uniform : (b k : ℕ) → b < blocks layout → k < lines layout b
      → slice_index bytes (start layout b + k) ≡ byte_of (state_in layout bytes b)
