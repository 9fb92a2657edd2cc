use Rattle.std.proofs.Common.{◌≡◌, ◌+◌, ◌≤◌, ◌++◌, map, drop, vec_len}
use Rattle.elf32_read.specs.Segments.{segment_of}
use Rattle.elf32_write.specs.Layout.{segment_bytes, segments_end}
use Rattle.elf32_write.specs.Room.{segments_room, room_limit}
use Rattle.elf32_write.proofs.segments.push_segment_bytes.Given as goal

abbrev pub invariant-loop-s : goal.invariant-loop-s
invariant-loop-s l = record {
  written :
      l.out.items ++ segment_bytes (vec_len l.out) (map segment_of (drop l.s-index l.segments))
      ≡ l.initial.out.items ++ segment_bytes (vec_len l.initial.out) (map segment_of l.segments);
  len : segments_end (vec_len l.out) (map segment_of (drop l.s-index l.segments)) ≡ segments_end (vec_len l.initial.out) (map segment_of l.segments);
  room : vec_len l.out + segments_room (map segment_of (drop l.s-index l.segments)) ≤ room_limit;
}
