use Rattle.std.proofs.Common.{◌≡◌, drop, map}
use Rattle.elf32_read.specs.Segments.{section_of}
use Rattle.elf_symbols.specs.Symbols.{bytes_named}
use Rattle.elf_symbols.proofs.bytes_named.Given as goal

-- none so far has the name
abbrev pub invariant-loop-section : goal.invariant-loop-section
invariant-loop-section l =
    bytes_named l.name (map section_of l.sections)
    ≡ bytes_named l.name (map section_of (drop l.section-index l.sections))
