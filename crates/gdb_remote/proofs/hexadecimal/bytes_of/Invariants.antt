use Rattle.std.proofs.Common.{◌≡◌, ◌++◌, length, option_map}
use Rattle.gdb_remote.specs.Hexadecimal.{bytes_of}
use Rattle.gdb_remote.proofs.hexadecimal.bytes_of.Given as goal

abbrev pub invariant-loop-rest : goal.invariant-loop-rest
invariant-loop-rest l = option_map (λ bs. l.bytes.items ++ bs) (bytes_of l.rest) ≡ bytes_of l.text

abbrev pub decreases-loop-rest : goal.decreases-loop-rest
decreases-loop-rest l = length l.rest
