use Rattle.one_memory.proofs.CopyLemmas.{IsCopied}
use Rattle.one_memory.proofs.copying.copy_range.Given as goal

abbrev pub invariant-loop-address : goal.invariant-loop-address
invariant-loop-address l = IsCopied l.from l.fn.to l.to l.start l.address
