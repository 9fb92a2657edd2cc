use Rattle.std.proofs.Common.{◌≡◌, ◌++◌}
use Rattle.gdb_session.specs.Sessions.{registers_below}
use Rattle.gdb_session.proofs.look.push_registers.Given as goal

abbrev pub invariant-loop-number : goal.invariant-loop-number
invariant-loop-number g l =
    l.out.items ≡ l.initial.out.items ++ registers_below (g.T.Target.view l.target) l.processor l.number
