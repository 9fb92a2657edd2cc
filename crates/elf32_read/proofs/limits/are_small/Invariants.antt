use Rattle.std.proofs.Common.{◌≡◌, ◌+◌, ◌^◌, ◌≤◌, map, take}
use Rattle.elf32_read.specs.Elf.{segments_size, sections_size}
use Rattle.elf32_read.specs.Segments.{segment_of, section_of}
use Rattle.elf32_read.proofs.limits.are_small.Given as goal

abbrev pub invariant-loop-s : goal.invariant-loop-s
invariant-loop-s l = record {
  sum : l.total ≡ segments_size (map segment_of (take l.s-index l.segments));
  few : l.total ≤ 2 ^ 30;
}

abbrev pub invariant-loop-s-2 : goal.invariant-loop-s-2
invariant-loop-s-2 l = record {
  sum :
      l.total
      ≡ segments_size (map segment_of l.segments) + sections_size (map section_of (take l.s-index l.sections));
  few : l.total ≤ 2 ^ 30;
}
