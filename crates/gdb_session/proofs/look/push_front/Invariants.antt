use Rattle.std.proofs.Common.{◌≡◌, ◌++◌, ◌+◌, ◌-◌}
use Rattle.gdb_remote.specs.Hexadecimal.{bytes_digits}
use Rattle.gdb_session.specs.Sessions.{mapped_front}
use Rattle.gdb_session.proofs.look.push_front.Given as goal

-- the bytes that are to come, behind those that there are, make the whole
abbrev pub invariant-loop-i : goal.invariant-loop-i
invariant-loop-i g l =
    l.out.items ++ bytes_digits (mapped_front (g.T.Target.view l.target) l.processor (l.address + l.i) (l.count - l.i))
    ≡ l.initial.out.items ++ bytes_digits (mapped_front (g.T.Target.view l.target) l.processor l.address l.count)
