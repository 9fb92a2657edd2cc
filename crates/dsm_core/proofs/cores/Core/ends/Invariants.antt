use Rattle.std.proofs.Common.{◌≡◌, ◌≤◌, Some, length, map}
use Rattle.std.specs.List.{range_with_len}
use Rattle.std.specs.Vec.{vec_capacity}
use Rattle.rv32_program.specs.declared.End.{End}
use Rattle.run_order.specs.node_model.Node.{end_of}
use Rattle.dsm_core.specs.CoreParts.{core_of}
use Rattle.dsm_core.proofs.cores.Core.ends.Given as goal

abbrev pub invariant-loop-node : goal.invariant-loop-node
invariant-loop-node l = record {
  items : map (λ (e : End). Some e) l.ends.items
      ≡ map (λ i. end_of ((core_of l.self).nodes i).phase) (range_with_len 0 l.node);
  len : length l.ends.items ≤ l.node;
  room : l.count ≤ vec_capacity l.ends;
}
