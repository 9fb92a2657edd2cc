use Rattle.std.proofs.Common.{◌≡◌, ◌≤◌, length, map}
use Rattle.std.specs.List.{range_with_len}
use Rattle.std.specs.Vec.{vec_capacity}
use Rattle.smp_sim.specs.CoreParts.{core_of}
use Rattle.smp_sim.proofs.cores.SmpCore.counts.Given as goal

abbrev pub invariant-loop-node : goal.invariant-loop-node
invariant-loop-node l = record {
  items : l.counts.items ≡ map (λ i. ((core_of l.self).nodes i).shared.counts) (range_with_len 0 l.node);
  len : length l.counts.items ≡ l.node;
  room : l.count ≤ vec_capacity l.counts;
}
