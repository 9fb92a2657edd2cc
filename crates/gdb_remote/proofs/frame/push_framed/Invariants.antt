use Rattle.std.proofs.Common.{◌≡◌, ◌++◌, drop}
use Rattle.gdb_remote.specs.Frames.{escaped}
use Rattle.gdb_remote.proofs.frame.push_framed.Given as goal

abbrev pub invariant-loop-byte : goal.invariant-loop-byte
invariant-loop-byte l = l.sent.items ++ escaped (drop l.byte-index l.body) ≡ escaped l.body
