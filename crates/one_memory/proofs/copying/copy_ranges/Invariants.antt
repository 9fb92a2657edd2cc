use Rattle.one_memory.proofs.CopyLemmas.{AreRangesCopied}
use Rattle.one_memory.proofs.copying.copy_ranges.Given as goal

abbrev pub invariant-loop-range : goal.invariant-loop-range
invariant-loop-range l = AreRangesCopied l.from l.fn.to l.to l.ranges l.range-index
