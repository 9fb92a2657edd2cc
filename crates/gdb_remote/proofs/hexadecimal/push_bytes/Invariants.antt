use Rattle.std.proofs.Common.{◌≡◌, ◌++◌, drop}
use Rattle.gdb_remote.specs.Hexadecimal.{bytes_digits}
use Rattle.gdb_remote.proofs.hexadecimal.push_bytes.Given as goal

-- the bytes that are to come, behind those that there are, make the whole
abbrev pub invariant-loop-byte : goal.invariant-loop-byte
invariant-loop-byte l = l.out.items ++ bytes_digits (drop l.byte-index l.bytes)
    ≡ l.initial.out.items ++ bytes_digits l.bytes
