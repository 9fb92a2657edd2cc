use Rattle.std.proofs.Common.{arith}
use Rattle.elf32_read.specs.Fields.{half_at}
use Rattle.elf_symbols.proofs.table.half_at.Goals as goal

pub returns : goal.returns
unfolding half_at
returns c = let e = c.from_le_bytes.ensures in omega arith
