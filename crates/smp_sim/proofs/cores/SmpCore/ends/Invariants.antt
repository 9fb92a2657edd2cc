use Rattle.std.proofs.Common.{◌≡◌, ◌≤◌, Some, length, map}
use Rattle.std.specs.List.{range_with_len}
use Rattle.std.specs.Vec.{vec_capacity}
use Rattle.rv32_program.specs.declared.End.{End}
use Rattle.lane_model.specs.node_model.Node.{end_of}
use Rattle.lane_model.specs.Nodes.{node_of, lane_of}
use Rattle.smp_sim.specs.CoreParts.{core_of, work_of}
use Rattle.smp_sim.proofs.cores.SmpCore.ends.Given as goal

abbrev pub invariant-loop-processor : goal.invariant-loop-processor
invariant-loop-processor l = record {
  items : map (λ (e : End). Some e) l.ends.items
      ≡ map (λ p. end_of (((core_of l.self).nodes (node_of (work_of l.self) p)).lanes
      (lane_of (work_of l.self) p)).phase) (range_with_len 0 l.processor);
  len : length l.ends.items ≤ l.processor;
  room : l.count ≤ vec_capacity l.ends;
}
