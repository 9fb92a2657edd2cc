use Rattle.std.proofs.Common.{take}
use Rattle.std.specs.Prelude.{map}
use Rattle.flag_memory.specs.Ranges.{range_of}
use Rattle.flag_memory.specs.Bytes.{AreWritten}
use Rattle.flag_memory.proofs.copy.write_all.Given as goal

abbrev pub invariant-loop-range : goal.invariant-loop-range
invariant-loop-range l = AreWritten l.layout l.bytes (take l.range-index (map range_of l.ranges))
