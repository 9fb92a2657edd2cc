-- A memory of lines that has the lines of some classes of an executable.
use Rattle.std.specs.Prelude.{◌≡◌, ℕ, Bool, is_some}
use Rattle.elf32_read.specs.Elf.{Elf}
use Rattle.exec_map.specs.Contents.{class_of_line, is_shared, is_read_only}
use Rattle.byte_range.specs.Lines.{LineBytes, place_of}
use Rattle.rv32_program.specs.declared.Class.{Class}

-- it has exactly the lines of these classes
abbrev pub HasLinesOf : (Class → Bool) → Elf → LineBytes → Type 0
HasLinesOf classes e m =
    (line : ℕ) → is_some (place_of m.ranges line) ≡ classes (class_of_line e line)

-- it has exactly the shared lines
abbrev pub HasSharedLines : Elf → LineBytes → Type 0
HasSharedLines e m = HasLinesOf is_shared e m

-- it has exactly the read-only lines
abbrev pub HasReadOnlyLines : Elf → LineBytes → Type 0
HasReadOnlyLines e m = HasLinesOf is_read_only e m
