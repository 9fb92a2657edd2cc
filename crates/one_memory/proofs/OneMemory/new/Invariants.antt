use Rattle.one_memory.proofs.TurnLemmas.{original_with, AreFirst}
use Rattle.one_memory.proofs.OneMemory.new.Given as goal

abbrev pub invariant-loop-p : goal.invariant-loop-p
invariant-loop-p l = AreFirst (original_with l.nodes l.layout l.program) l.processors.items l.p
