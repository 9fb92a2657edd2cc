-- Helps the code alone: states and copy at the start.
use Rattle.std.specs.Prelude.{◌≡◌, ℕ, false, ◌*◌, ◌==◌, if◌then◌else◌, List, ◌∷◌, [], ◌++◌, map}
use Rattle.elf32_read.specs.Elf.{Elf}
use Rattle.block_layout.specs.Layout.{Shape, home, lines, first_line}
use Rattle.block_layout.specs.declared.ranges.Lines.{Lines}
use Rattle.node_words.specs.exec_map.Contents.{class_of_line, first_bytes, is_shared}
use Rattle.state_table.specs.declared.TheConstants.{EXCLUSIVE, READ_ONLY}
use Rattle.state_table.specs.declared.State.{State}
use Rattle.state_table.specs.declared.State.TheVariants.{Exclusive, Invalid}
use Rattle.state_table.specs.declared.classes.LineClass.{LineClass}
use Rattle.state_table.specs.LineClasses.{class_byte}
use Rattle.node_words.specs.flag_memory.Flag.{flags}
use Rattle.node_words.specs.node_model.Node.{first_state}

abbrev pub read_only_class : Lines → LineClass
read_only_class r = record { first = r.first; lines = r.lines; byte = READ_ONLY }

-- the lines of the window
abbrev pub window_class : LineClass
window_class = record { first = 0x1fffc00; lines = 0x400; byte = EXCLUSIVE }

abbrev pub classes_of : List Lines → List LineClass
classes_of ranges = map read_only_class ranges ++ window_class ∷ []

-- the lines that aren't shared have the state byte of the start
pub record AreFixedClasses (e : Elf) (classes : List LineClass) : Type 0 where
  pub bytes : (line : ℕ) → is_shared (class_of_line e line) ≡ false
      → class_byte classes line ≡ first_state (class_of_line e line) false

-- the first bytes of a block
abbrev pub block_bytes : Elf → Shape → ℕ → List ℕ
block_bytes e l b = first_bytes e (64 * first_line l b) (64 * lines l b)

abbrev pub opening_state : Shape → (me b : ℕ) → State
opening_state l me b = if home l b == me then Exclusive else Invalid

abbrev pub opening_bytes : Elf → Shape → (me b : ℕ) → List ℕ
opening_bytes e l me b = if home l b == me then block_bytes e l b else flags (64 * lines l b)
