use Rattle.std.proofs.Common.{◌≡◌, ◌-◌, ◌≤◌, map}
use Rattle.elf32_read.specs.Segments.{section_of}
use Rattle.elf32_read.proofs.ContentsLemmas.{sections_to}
use Rattle.elf32_read.proofs.contents.sections.Given as goal

abbrev pub invariant-loop-index : goal.invariant-loop-index
invariant-loop-index l = record {
  value : map section_of l.all.items ≡ sections_to l.file (l.index - 1);
  end : l.index - 1 ≤ l.header.e_shnum - 1;
}
