use Rattle.std.proofs.Common.{◌∷◌, [], ◌++◌, List, ap, ap₂, ◌∙◌, sym, arith}
use Rattle.std.proofs.lemmas.List.FromFn.{map-range_with_len_more}
use Rattle.run_trace.specs.node_model.declared.NodeCounts.{NodeCounts}
use Rattle.run_trace.specs.node_model.Node.{Node}
use Rattle.run_trace.specs.replay.dsm_core.CoreParts.{core_of}
use Rattle.run_costs.proofs.nodes.nodes_of.Goals as goal

pub loop-node-preserved : goal.loop-node-preserved
loop-node-preserved c =
    let core = core_of c.args.core.now in
    let k = c.loop-node.node in
    c.in_ok-push.ensures.items
    ∙ ap₂ (λ (xs : List NodeCounts) (x : NodeCounts). xs ++ x ∷ []) c.loop-node.invariant
    (c.counts.ensures.value ∙ ap (λ (n : Node). n.counts) c.node.ensures.value)
    ∙ sym (map-range_with_len_more (λ i. (core.nodes i).counts) 0 k k (omega arith))
