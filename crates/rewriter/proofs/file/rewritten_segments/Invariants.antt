use Rattle.std.proofs.Common.{◌≡◌, map, take}
use Rattle.elf32_read.specs.Segments.{segment_of}
use Rattle.rewriter.specs.RewrittenFile.{without_execution}
use Rattle.rewriter.proofs.file.rewritten_segments.Given as goal

-- the segments so far are those of the original
abbrev pub invariant-loop-segment : goal.invariant-loop-segment
invariant-loop-segment l = map segment_of l.segments.items
    ≡ map without_execution (take l.segment-index l.original.segments)
