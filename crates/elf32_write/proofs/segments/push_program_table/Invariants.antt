use Rattle.std.proofs.Common.{◌≡◌, ◌+◌, ◌*◌, ◌≤◌, ◌++◌, map, take, drop, vec_len, true}
use Rattle.elf32_read.specs.Segments.{segment_of}
use Rattle.elf32_write.specs.Layout.{headers_end, program_table}
use Rattle.std.specs.List.{list_all}
use Rattle.elf32_write.specs.Writable.{has_segment_words}
use Rattle.elf32_write.specs.Room.{segments_room, room_limit}
use Rattle.elf32_write.proofs.segments.push_program_table.Given as goal

abbrev pub invariant-loop-s : goal.invariant-loop-s
invariant-loop-s l = record {
  written :
      l.out.items ++ program_table l.end (map segment_of (drop l.s-index l.segments))
      ≡ l.initial.out.items ++ program_table (headers_end (map segment_of l.segments)) (map segment_of l.segments);
  len : vec_len l.out ≡ vec_len l.initial.out + 32 * l.s-index;
  words : list_all has_segment_words (map segment_of (take l.s-index l.segments)) ≡ true;
  room : l.end + segments_room (map segment_of (drop l.s-index l.segments)) ≤ room_limit;
}
