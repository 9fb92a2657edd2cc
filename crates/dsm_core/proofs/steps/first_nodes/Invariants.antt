use Rattle.std.proofs.Common.{◌≡◌, ◌≤◌, length}
use Rattle.std.specs.Vec.{vec_capacity}
use Rattle.dsm_core.specs.CoreParts.{work_in, HaveWork}
use Rattle.dsm_core.specs.CoreSteps.{AreFirst}
use Rattle.dsm_core.proofs.steps.first_nodes.Given as goal

abbrev pub invariant-loop-me : goal.invariant-loop-me
invariant-loop-me l = record {
  len : length l.nodes.items ≡ l.me;
  room : l.count ≤ vec_capacity l.nodes;
  first : AreFirst (work_in l.work) l.nodes.items;
  works : HaveWork (work_in l.work) l.nodes.items;
}
