use Rattle.std.proofs.Common.{◌≡◌, take}
use Rattle.byte_range.specs.Lines.{line_count}
use Rattle.byte_range.specs.Pieces.{pieces_from}
use Rattle.byte_range.proofs.lines.LineMemory.of.Given as goal

abbrev pub invariant-loop-lines : goal.invariant-loop-lines
invariant-loop-lines l = record {
  items : l.pieces.items ≡ pieces_from 0 (take l.lines-index l.ranges);
  start : l.start ≡ line_count (take l.lines-index l.ranges);
}
