use Rattle.std.proofs.Common.{◌≡◌, take}
use Rattle.flag_memory.specs.Flag.{flags}
use Rattle.flag_memory.proofs.copy.fill.Given as goal

abbrev pub invariant-loop-i : goal.invariant-loop-i
invariant-loop-i l = take l.i l.words ≡ flags l.i
