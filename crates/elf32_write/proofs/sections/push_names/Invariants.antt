use Rattle.std.proofs.Common.{◌≡◌, ◌+◌, ◌++◌, length, map, drop, vec_len}
use Rattle.elf32_read.specs.Segments.{section_of}
use Rattle.elf32_write.specs.Layout.{name_list}
use Rattle.elf32_write.proofs.sections.push_names.Given as goal

abbrev pub invariant-loop-s : goal.invariant-loop-s
invariant-loop-s l = record {
  written :
      l.out.items ++ name_list (map section_of (drop l.s-index l.sections))
      ≡ l.initial.out.items ++ name_list (map section_of l.sections);
  len :
      vec_len l.out + length (name_list (map section_of (drop l.s-index l.sections)))
      ≡ vec_len l.initial.out + length (name_list (map section_of l.sections));
}
