use Rattle.elf32_read.specs.Refusals.{has_wrong_sizes}
use Rattle.elf32_read.proofs.HeaderSearch.{NoneBefore}
use Rattle.elf32_read.proofs.rules.first_of_wrong_sizes.Given as goal

abbrev pub invariant-loop-index : goal.invariant-loop-index
invariant-loop-index l = NoneBefore l.file has_wrong_sizes l.index
