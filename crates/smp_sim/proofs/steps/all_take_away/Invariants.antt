use Rattle.std.proofs.Common.{ℕ, ◌<◌}
use Rattle.lane_law.specs.dsm_protocol.Queue.{wires_of}
use Rattle.smp_sim.specs.CoreSteps.{TakeAway}
use Rattle.smp_sim.proofs.steps.all_take_away.Given as goal

abbrev pub invariant-loop-from : goal.invariant-loop-from
invariant-loop-from l = (j : ℕ) → j < l.from → TakeAway (wires_of l.lists l.count j l.node)
