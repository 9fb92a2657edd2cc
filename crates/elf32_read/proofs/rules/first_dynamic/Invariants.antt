use Rattle.elf32_read.specs.Refusals.{is_dynamic}
use Rattle.elf32_read.proofs.HeaderSearch.{NoneBefore}
use Rattle.elf32_read.proofs.rules.first_dynamic.Given as goal

abbrev pub invariant-loop-index : goal.invariant-loop-index
invariant-loop-index l = NoneBefore l.file is_dynamic l.index
