use Rattle.flag_memory.specs.Bytes.{IsWritten}
use Rattle.flag_memory.proofs.copy.write.Given as goal

abbrev pub invariant-loop-i : goal.invariant-loop-i
invariant-loop-i l = IsWritten l.layout l.initial.bytes l.bytes l.address l.i l.from
