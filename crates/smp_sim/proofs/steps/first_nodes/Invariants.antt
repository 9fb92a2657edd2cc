use Rattle.std.proofs.Common.{◌≡◌, ◌≤◌, length}
use Rattle.std.specs.Vec.{vec_capacity}
use Rattle.lane_machine.specs.SmpNodes.{lane_work}
use Rattle.smp_sim.specs.CoreSteps.{AreFirst}
use Rattle.smp_sim.proofs.steps.first_nodes.Given as goal

abbrev pub invariant-loop-me : goal.invariant-loop-me
invariant-loop-me l = record {
  len : length l.nodes.items ≡ l.me;
  room : l.count ≤ vec_capacity l.nodes;
  first : AreFirst (lane_work l.work) l.me l.nodes.items;
}
