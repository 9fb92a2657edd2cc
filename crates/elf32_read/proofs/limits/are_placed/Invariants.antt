use Rattle.std.proofs.Common.{◌≡◌, true, map, take}
use Rattle.elf32_read.specs.Elf.{are_placed}
use Rattle.elf32_read.specs.Segments.{segment_of}
use Rattle.elf32_read.proofs.limits.are_placed.Given as goal

abbrev pub invariant-loop-s : goal.invariant-loop-s
invariant-loop-s l = are_placed (map segment_of (take l.s-index l.segments)) ≡ true
