-- The values that the segments and sections of the code stand for.
use Rattle.std.specs.Prelude.{ℕ, List, map}
use Rattle.elf32_read.specs.Elf.{Elf, Segment, Section}
use Rattle.elf32_read.specs.declared.Segment as declared
use Rattle.elf32_read.specs.declared.Section as declared_section

abbrev pub segment_of : declared.Segment → Segment
segment_of s = record { flags = s.flags; vaddr = s.vaddr; memsz = s.memsz; bytes = s.bytes.now }

abbrev pub section_of : declared_section.Section → Section
section_of s = record {
  name = s.name.now;
  kind = s.kind;
  flags = s.flags;
  addr = s.addr;
  size = s.size;
  bytes = s.bytes.now;
}

-- the executable of these parts
abbrev pub elf_with : ℕ → ℕ → List declared.Segment → List declared_section.Section → Elf
elf_with entry flags segments sections = record {
  entry = entry;
  flags = flags;
  segments = map segment_of segments;
  sections = map section_of sections;
}
