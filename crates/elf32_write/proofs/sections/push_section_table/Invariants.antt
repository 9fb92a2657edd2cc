use Rattle.std.proofs.Common.{◌≡◌, ◌+◌, ◌≤◌, ◌++◌, map, take, drop, true}
use Rattle.elf32_read.specs.Segments.{section_of}
use Rattle.elf32_write.specs.Layout.{section_table}
use Rattle.std.specs.List.{list_all}
use Rattle.elf32_write.specs.Writable.{has_section_words}
use Rattle.elf32_write.specs.Room.{sections_room, room_limit}
use Rattle.elf32_write.proofs.sections.push_section_table.Given as goal

abbrev pub invariant-loop-s : goal.invariant-loop-s
invariant-loop-s l = record {
  written :
      l.out.items ++ section_table l.end l.name (map section_of (drop l.s-index l.sections))
      ≡ l.initial.out.items ++ section_table l.start 1 (map section_of l.sections);
  words : list_all has_section_words (map section_of (take l.s-index l.sections)) ≡ true;
  room : l.end + sections_room (map section_of (drop l.s-index l.sections)) ≤ room_limit;
  names : l.name + sections_room (map section_of (drop l.s-index l.sections)) ≤ 1 + room_limit;
}
