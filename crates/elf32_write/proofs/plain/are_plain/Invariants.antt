use Rattle.std.proofs.Common.{◌≡◌, true, map, take}
use Rattle.std.specs.List.{list_all}
use Rattle.elf32_read.specs.Segments.{section_of}
use Rattle.elf32_write.specs.Writable.{is_plain}
use Rattle.elf32_write.proofs.plain.are_plain.Given as goal

abbrev pub invariant-loop-s : goal.invariant-loop-s
invariant-loop-s l = list_all is_plain (map section_of (take l.s-index l.sections)) ≡ true
