use Rattle.std.proofs.Common.{◌≡◌, ℕ, ◌<◌, true}
use Rattle.lane_model.specs.Core.{is_over}
use Rattle.lane_machine.specs.SmpNodes.{lane_work}
use Rattle.smp_sim.specs.CoreParts.{core_with}
use Rattle.smp_sim.proofs.steps.are_over.Given as goal

abbrev pub invariant-loop-node : goal.invariant-loop-node
invariant-loop-node l = record {
  over : (i : ℕ) → i < l.node
      → is_over (lane_work l.work) ((core_with (lane_work l.work) l.nodes l.lists).nodes i) ≡ true;
}
