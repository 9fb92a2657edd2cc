use Rattle.std.proofs.Common.{◌≡◌, ◌++◌}
use Rattle.gdb_session.specs.Sessions.{register_lines_below}
use Rattle.gdb_session.proofs.description.push_register_lines.Given as goal

abbrev pub invariant-loop-number : goal.invariant-loop-number
invariant-loop-number l = l.text.items ≡ l.initial.text.items ++ register_lines_below l.number
