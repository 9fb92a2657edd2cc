use Rattle.std.proofs.Common.{arith}
use Rattle.elf32_read.specs.Fields.{word_at}
use Rattle.elf_symbols.proofs.table.word_at.Goals as goal

pub returns : goal.returns
unfolding word_at
returns c = omega arith
