use Rattle.std.proofs.Common.{arith}
use Rattle.block_layout.proofs.Fields.{room}
use Rattle.block_layout.proofs.text.hexadecimal.Goals as goal

pub number_in-requires-clause-small : goal.number_in-requires-clause-small
number_in-requires-clause-small c = room 16 8 _ (omega arith) (omega (arith, c.if-digits-gt-MOST_ADDRESS_DIGITS.false)) (omega arith)
