-- One node more.
use Rattle.std.proofs.Common.{◌≤◌, ◌∷◌, [], ◌++◌, ◌+◌, List, length, ap, ap₂, ◌∙◌, sym, subst, arith}
use Rattle.std.proofs.lemmas.List.{length-append}
use Rattle.std.proofs.lemmas.List.FromFn.{map-range_with_len_more}
use Rattle.run_order.specs.node_model.declared.NodeCounts.{NodeCounts}
use Rattle.run_order.specs.node_model.Node.{Node}
use Rattle.dsm_core.specs.CoreParts.{core_of}
use Rattle.dsm_core.proofs.cores.Core.counts.Goals as goal

pub loop-node-preserved : goal.loop-node-preserved
loop-node-preserved c =
    let core = core_of c.args.self.now in
    let k = c.loop-node.node in
    let is = c.push_reserved.ensures.items in
    record {
      len = ap length is ∙ length-append c.loop-node.counts.items (c.counts.result ∷ [])
          ∙ ap (λ z. z + 1) c.loop-node.invariant.len;
      room = subst (λ z. c.nodes-count.result ≤ z) (sym c.push_reserved.ensures.capacity)
          c.loop-node.invariant.room;
      items = is ∙ ap₂ (λ (xs : List NodeCounts) (x : NodeCounts). xs ++ x ∷ [])
          c.loop-node.invariant.items
          (c.counts.ensures.value ∙ ap (λ (n : Node). n.counts) c.node.ensures.value)
          ∙ sym (map-range_with_len_more (λ i. (core.nodes i).counts) 0 k k (omega arith));
    }
