use Rattle.std.proofs.Math.Facts.{Fits-lt-pow}
use Rattle.byte_range.proofs.bytes.bytes_law.Goals as goal

pub returns : goal.returns
returns c = record { small = λ k. Fits-lt-pow (c.type_inv.bytes k) }
