use Rattle.std.proofs.Common.{◌≡◌, true, map}
use Rattle.elf32_read.specs.Elf.{are_placed}
use Rattle.elf32_read.specs.Segments.{segment_of}
use Rattle.elf32_read.proofs.ContentsLemmas.{segments_to}
use Rattle.elf32_read.proofs.contents.segments.Given as goal

abbrev pub invariant-loop-index : goal.invariant-loop-index
invariant-loop-index l = record {
  value : map segment_of l.all.items ≡ segments_to l.file l.index;
  placed : are_placed (map segment_of l.all.items) ≡ true;
}
