use Rattle.rv32_step.specs.Registers.{registers_of}
use Rattle.one_memory.proofs.CopyLemmas.{AreSet}
use Rattle.one_memory.proofs.copying.copy_of_registers.Given as goal

abbrev pub invariant-loop-number : goal.invariant-loop-number
invariant-loop-number l = AreSet (registers_of l.from) (registers_of l.registers) l.number
