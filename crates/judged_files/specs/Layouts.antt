-- The layout of a run.
use Rattle.std.specs.Prelude.{◌≡◌, ℕ, List, [], Option, None, Some}
use Rattle.elf32_read.specs.Elf.{Elf}
use Rattle.exec_map.specs.Contents.{AreSharedRanges}
use Rattle.block_layout.specs.declared.ranges.Lines.{Lines}
use Rattle.block_layout.specs.Layout.{Shape}
use Rattle.block_layout.specs.Text.{IsLayoutOf}

-- the layout of shared lines that a text is, for so many nodes; without a text each line is a block
abbrev pub IsLayoutOfLines : Option (List ℕ) → List Lines → ℕ → Shape → Type 0
IsLayoutOfLines None shared nodes layout =
    layout ≡ record { shared = shared; named = []; nodes = nodes }
IsLayoutOfLines (Some text) shared nodes layout = IsLayoutOf text shared nodes layout

-- the layout of the executable's shared lines
pub record IsLayoutOfExecutable (elf : Elf) (text : Option (List ℕ)) (nodes : ℕ)
    (layout : Shape) : Type 0
  where
    pub shared : List Lines
    pub lines : AreSharedRanges elf shared
    pub reads : IsLayoutOfLines text shared nodes layout
