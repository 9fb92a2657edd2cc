use Rattle.std.proofs.Common.{◌≡◌, ◌++◌}
use Rattle.gdb_session.specs.Sessions.{threads_below}
use Rattle.gdb_session.proofs.telling.push_threads.Given as goal

abbrev pub invariant-loop-processor : goal.invariant-loop-processor
invariant-loop-processor l = l.out.items ≡ l.initial.out.items ++ threads_below l.processor
