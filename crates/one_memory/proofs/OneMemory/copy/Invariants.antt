use Rattle.one_memory.proofs.CopyLemmas.{AreCopies}
use Rattle.one_memory.proofs.OneMemory.copy.Given as goal

abbrev pub invariant-loop-p : goal.invariant-loop-p
invariant-loop-p l = AreCopies l.self-inside.processors.items l.processors.items l.p
