use Rattle.std.proofs.Common.{◌≡◌, map, take}
use Rattle.elf32_read.specs.Segments.{segment_of}
use Rattle.rewriter.proofs.comparing.are_segments.Given as goal

-- the segments so far have the same fields
abbrev pub invariant-loop-k : goal.invariant-loop-k
invariant-loop-k l =
    map segment_of (take l.k l.ones) ≡ map segment_of (take l.k l.others)
