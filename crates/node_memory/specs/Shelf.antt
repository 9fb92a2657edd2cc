-- Helps the code alone: what contracts see of what words see of their node, what that stands
-- for, and what is loaded of it.
use Rattle.std.specs.Prelude.{◌≡◌, ℕ, ◌+◌, ◌-◌, ◌^◌, ◌/◌, ◌<◌, ◌≤◌, true, false, if◌then◌else◌, List, [], ◌∷◌, Option, Some, None}
use Rattle.elf32_read.specs.Elf.{Elf}
use Rattle.block_layout.specs.Layout.{Shape, is_shared}
use Rattle.exec_map.specs.byte_range.Lines.{LineBytes, lines_memory}
use Rattle.exec_map.specs.SharedLines.{HasReadOnlyLines}
use Rattle.exec_map.specs.Contents.{program_of, class_of_line, first_byte, is_shared as is_shared_class}
use Rattle.exec_map.specs.rv32_program.declared.Class.TheVariants.{ReadOnly, Shared}
use Rattle.node_model.specs.state_table.States.{States, line_byte}
use Rattle.node_model.specs.state_table.LineClasses.{class_byte}
use Rattle.node_model.specs.flag_memory.Copy.{Copy, memory, place}
use Rattle.node_model.specs.flag_memory.Flag.{flag_byte}
use Rattle.node_memory.specs.declared.lines.Want as kept_want
use Rattle.node_memory.specs.declared.lines.Wants as kept_wants
use Rattle.node_memory.specs.declared.region.Region as kept_region
use Rattle.node_memory.specs.declared.region.Region.TheVariants as kept_at
use Rattle.node_model.specs.Node.{NodeMemory, Want, Region, Memory, StateOf, Spill, Elsewhere, first_state}
use Rattle.rv32_decode.specs.declared.Width.{Width}
use Rattle.rv32_decode.specs.declared.Width.TheVariants.{Byte}
use Rattle.rv32_decode.specs.Widths.{is_aligned}
use Rattle.exec_map.specs.byte_range.Memory.{raw}
use Rattle.exec_map.specs.rv32_program.Program.{class_at}

-- what contracts see of what words see of their node
pub record Shelf : Type 0 where
  pub program : Elf
  pub states : States
  pub copy : Copy
  pub reservation : Option ℕ

-- what no word and no message changes of it
pub record Ground : Type 0 where
  pub program : Elf
  pub layout : Shape

abbrev pub ground_of : Shelf → Ground
ground_of s = record { program = s.program; layout = s.copy.layout }

-- the shared lines of the layout are those of the program, as tests of a line
abbrev pub HasSharedLines : Elf → Shape → Type 0
HasSharedLines e layout =
    (line : ℕ) → is_shared layout line ≡ is_shared_class (class_of_line e line)

-- the states and the copy are those of the program's shared lines, and the state bytes of the other
-- lines are those of the start
pub record HasLines (e : Elf) (states : States) (copy : Copy) : Type 0 where
  pub one : states.layout ≡ copy.layout
  pub shared : HasSharedLines e copy.layout
  pub others : (line : ℕ) → is_shared copy.layout line ≡ false
      → class_byte states.program line ≡ first_state (class_of_line e line) false
  pub low : (line : ℕ) → is_shared copy.layout line ≡ true → line < 2 ^ 25

-- the bytes of the read-only lines are those that the program begins with
pub record HasFixed (e : Elf) (fixed : LineBytes) : Type 0 where
  pub lines : HasReadOnlyLines e fixed
  pub low : (line : ℕ) → class_of_line e line ≡ ReadOnly → line < 2 ^ 25
  pub bytes : lines_memory fixed (first_byte e) ≡ first_byte e

-- lines from an address on that are shared, and are the first of all
pub record AreFirstLines (layout : Shape) (base len : ℕ) : Type 0 where
  pub fits : base + len ≤ 2 ^ 32
  pub first : (a : ℕ) → base ≤ a → a < base + len
      → (is_shared layout (a / 64) ≡ true) × (place layout a ≡ a - base)

-- the place of an address's byte among those of the shared lines, where its line is shared
abbrev pub IsPlace : Shape → ℕ → Option ℕ → Type 0
IsPlace layout a None = is_shared layout (a / 64) ≡ false
IsPlace layout a (Some k) = (is_shared layout (a / 64) ≡ true) × (k ≡ place layout a)

-- the copy by address; outside of the shared lines it holds flag words
unfoldable pub copy_of : Copy → ℕ → ℕ
copy_of c a = if is_shared c.layout (a / 64) then memory c a else flag_byte a

abbrev pub local_of : Shelf → NodeMemory
local_of s = record {
  copy = copy_of s.copy;
  state = line_byte s.states;
  reservation = s.reservation;
}

abbrev pub region_by : kept_region.Region → Region
region_by kept_at.Memory = Memory
region_by (kept_at.StateOf line) = StateOf line
region_by (kept_at.Spill k) = Spill k
region_by kept_at.Elsewhere = Elsewhere

abbrev pub want_of : kept_want.Want → Want
want_of w = record { at = w.at; need = w.need }

-- the wants behind the first
abbrev pub others_of : Option kept_want.Want → List Want
others_of None = []
others_of (Some w) = want_of w ∷ []

abbrev pub all_wants : kept_wants.Wants → List Want
all_wants w = want_of w.first ∷ others_of w.other

abbrev pub wants_in : Option kept_wants.Wants → List Want
wants_in None = []
wants_in (Some w) = all_wants w

-- the bytes of a shared line from an aligned address on make this number
pub record IsLoaded (s : Shelf) (w : Width) (a n : ℕ) : Type 0 where
  pub aligned : is_aligned w a ≡ true
  pub shared : class_at (program_of s.program) a ≡ Shared
  pub low : a < 2 ^ 31
  pub value : n ≡ raw w (local_of s).copy a
  pub byte : w ≡ Byte → n < 2 ^ 8
