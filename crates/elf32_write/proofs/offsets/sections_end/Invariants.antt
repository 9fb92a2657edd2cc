use Rattle.std.proofs.Common.{◌≡◌, ◌+◌, ◌≤◌, map, drop}
use Rattle.elf32_read.specs.Segments.{section_of}
use Rattle.elf32_write.specs.Layout.{sections_end}
use Rattle.elf32_write.specs.Room.{sections_room, room_limit}
use Rattle.elf32_write.proofs.offsets.sections_end.Given as goal

abbrev pub invariant-loop-s : goal.invariant-loop-s
invariant-loop-s l = record {
  end : sections_end l.end (map section_of (drop l.s-index l.sections)) ≡ sections_end l.start (map section_of l.sections);
  room : l.end + sections_room (map section_of (drop l.s-index l.sections)) ≤ room_limit;
}
