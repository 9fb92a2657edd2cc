use Rattle.std.proofs.Common.{arith}
use Rattle.byte_range.specs.Memory.{raw}
use Rattle.exec_map.proofs.segments.word.Goals as goal

pub returns : goal.returns
unfolding raw
returns c = grind (arith, c.byte_at.ensures, c.byte_at-2.ensures, c.byte_at-3.ensures, c.byte_at-4.ensures, c.from_le_bytes.ensures)
