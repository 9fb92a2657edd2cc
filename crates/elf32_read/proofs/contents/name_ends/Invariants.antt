use Rattle.elf32_read.proofs.NameEndsLemmas.{AreEndsTo}
use Rattle.elf32_read.proofs.contents.name_ends.Given as goal

abbrev pub invariant-loop-index : goal.invariant-loop-index
invariant-loop-index l = AreEndsTo l.names l.ends.items l.index
