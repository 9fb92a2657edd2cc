use Rattle.elf32_read.specs.Refusals.{is_outside}
use Rattle.elf32_read.proofs.HeaderSearch.{NoneBefore}
use Rattle.elf32_read.proofs.rules.first_outside.Given as goal

abbrev pub invariant-loop-index : goal.invariant-loop-index
invariant-loop-index l = NoneBefore l.file (is_outside l.file) l.index
