use Rattle.std.proofs.Common.{◌≡◌, take, map}
use Rattle.elf32_read.specs.Segments.{segment_of}
use Rattle.rv32_asm.specs.Pieces.{segment_of as cut}
use Rattle.rv32_asm.proofs.assembled.Assembled.elf.Given as goal

abbrev pub invariant-loop-piece : goal.invariant-loop-piece
invariant-loop-piece l =
    map segment_of l.segments.items ≡ map (cut l.self-inside.bytes.items)
    (take l.piece-index l.self-inside.pieces.items)
