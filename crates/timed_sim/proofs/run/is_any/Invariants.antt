use Rattle.timed_sim.proofs.run.is_any.Given as goal

abbrev pub invariant-loop-node : goal.invariant-loop-node
invariant-loop-node l = record {}
