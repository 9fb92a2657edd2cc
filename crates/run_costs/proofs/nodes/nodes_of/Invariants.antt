use Rattle.std.proofs.Common.{◌≡◌, map}
use Rattle.std.specs.List.{range_with_len}
use Rattle.run_trace.specs.replay.dsm_core.CoreParts.{core_of}
use Rattle.run_costs.proofs.nodes.nodes_of.Given as goal

-- the counts of the nodes so far
abbrev pub invariant-loop-node : goal.invariant-loop-node
invariant-loop-node l =
    l.counts.items ≡ map (λ i. ((core_of l.core).nodes i).counts) (range_with_len 0 l.node)
