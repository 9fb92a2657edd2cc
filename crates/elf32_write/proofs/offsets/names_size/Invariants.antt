use Rattle.std.proofs.Common.{◌≡◌, ◌+◌, ◌≤◌, length, map, drop}
use Rattle.elf32_read.specs.Segments.{section_of}
use Rattle.elf32_write.specs.Layout.{name_list}
use Rattle.elf32_write.specs.Room.{sections_room, room_limit}
use Rattle.elf32_write.proofs.offsets.names_size.Given as goal

abbrev pub invariant-loop-s : goal.invariant-loop-s
invariant-loop-s l = record {
  size : l.size + length (name_list (map section_of (drop l.s-index l.sections))) ≡ 11 + length (name_list (map section_of l.sections));
  room : l.size + sections_room (map section_of (drop l.s-index l.sections)) ≤ 11 + room_limit;
}
