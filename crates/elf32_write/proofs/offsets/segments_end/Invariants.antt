use Rattle.std.proofs.Common.{◌≡◌, ◌+◌, ◌≤◌, map, drop}
use Rattle.elf32_read.specs.Segments.{segment_of}
use Rattle.elf32_write.specs.Layout.{headers_end, segments_end}
use Rattle.elf32_write.specs.Room.{segments_room, room_limit}
use Rattle.elf32_write.proofs.offsets.segments_end.Given as goal

abbrev pub invariant-loop-s : goal.invariant-loop-s
invariant-loop-s l = record {
  end :
      segments_end l.end (map segment_of (drop l.s-index l.segments))
      ≡ segments_end (headers_end (map segment_of l.segments)) (map segment_of l.segments);
  room : l.end + segments_room (map segment_of (drop l.s-index l.segments)) ≤ room_limit;
}
