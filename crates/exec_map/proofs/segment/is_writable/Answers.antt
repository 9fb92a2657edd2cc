-- The bit of a mask that has one bit.
use Rattle.std.proofs.Common.{arith}
use Rattle.std.proofs.lemmas.Bool.Decides.{nat_tests}
use Rattle.std.proofs.lemmas.Nat.Bits.{and_high}
use Rattle.exec_map.proofs.segment.is_writable.Goals as goal

pub returns : goal.returns
returns c = let is = and_high c.args.s.now.flags 1 1 in grind (arith, nat_tests)
