use Rattle.std.proofs.Common.{◌≡◌}
use Rattle.one_memory.specs.Machine.{original_of}
use Rattle.machine_tests.proofs.machines.run.Given as goal

abbrev pub invariant-loop : goal.invariant-loop
invariant-loop l = original_of l.machine ≡ original_of l.fn.machine
