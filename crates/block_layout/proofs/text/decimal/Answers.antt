use Rattle.std.proofs.Common.{arith}
use Rattle.block_layout.proofs.Fields.{low_if}
use Rattle.block_layout.proofs.text.decimal.Goals as goal

pub returns-clause-low : goal.returns-clause-low
returns-clause-low c = low_if c.args.most c.args.word.now c.number_in.result (omega (arith, c.if-word-most.false)) c.number_in.ensures
