use Rattle.std.proofs.Common.{arith}
use Rattle.byte_range.specs.Memory.{raw}
use Rattle.exec_map.proofs.segments.load.Goals as goal

pub returns-in-Byte : goal.returns-in-Byte
unfolding raw
returns-in-Byte c = rw c.in-Byte.is (grind (arith, c.byte_at.ensures, c.from.ensures))

pub returns-in-Half : goal.returns-in-Half
unfolding raw
returns-in-Half c = rw c.in-Half.is (grind (arith, c.byte_at-in-Half.ensures, c.byte_at-in-Half-2.ensures, c.from_le_bytes.ensures, c.from-in-Half.ensures))
