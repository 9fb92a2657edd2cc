use Rattle.std.proofs.Common.{◌≡◌, ◌+◌, ◌≤◌, ◌++◌, map, drop, vec_len}
use Rattle.elf32_read.specs.Segments.{section_of}
use Rattle.elf32_write.specs.Layout.{section_bytes, sections_end}
use Rattle.elf32_write.specs.Room.{sections_room, room_limit}
use Rattle.elf32_write.proofs.sections.push_section_bytes.Given as goal

abbrev pub invariant-loop-s : goal.invariant-loop-s
invariant-loop-s l = record {
  written :
      l.out.items ++ section_bytes (vec_len l.out) (map section_of (drop l.s-index l.sections))
      ≡ l.initial.out.items ++ section_bytes (vec_len l.initial.out) (map section_of l.sections);
  len : sections_end (vec_len l.out) (map section_of (drop l.s-index l.sections)) ≡ sections_end (vec_len l.initial.out) (map section_of l.sections);
  room : vec_len l.out + sections_room (map section_of (drop l.s-index l.sections)) ≤ room_limit;
}
