use Rattle.std.proofs.Common.{arith}
use Rattle.elf32_write.specs.Layout.{placed}
use Rattle.elf32_write.proofs.offsets.placed.Goals as goal

pub returns-clause-value : goal.returns-clause-value
unfolding placed
returns-clause-value c = omega arith
