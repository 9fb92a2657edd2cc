-- One node more.
use Rattle.std.proofs.Common.{◌≤◌, ◌∷◌, [], ◌++◌, ◌+◌, List, length, ap, ap₂, ◌∙◌, sym, subst, arith}
use Rattle.std.proofs.lemmas.List.{length-append}
use Rattle.std.proofs.lemmas.List.FromFn.{map-range_with_len_more}
use Rattle.lane_model.specs.node_model.declared.NodeCounts.{NodeCounts}
use Rattle.lane_model.specs.Nodes.{LaneNode}
use Rattle.smp_sim.specs.CoreParts.{core_of, work_of}
use Rattle.smp_sim.proofs.cores.SmpCore.counts.Goals as goal

pub loop-node-preserved : goal.loop-node-preserved
loop-node-preserved c =
    let p = c.args.self.now in
    let core = core_of p in
    let k = c.loop-node.node in
    let is = c.push_reserved.ensures.items in
    record {
      len = ap length is ∙ length-append c.loop-node.counts.items (c.counts.result ∷ [])
          ∙ ap (λ z. z + 1) c.loop-node.invariant.len;
      room = subst (λ z. c.node_count-count.result ≤ z) (sym c.push_reserved.ensures.capacity)
          c.loop-node.invariant.room;
      items = is ∙ ap₂ (λ (xs : List NodeCounts) (x : NodeCounts). xs ++ x ∷ [])
          c.loop-node.invariant.items
          (c.counts.ensures.value (work_of p) k ∙ ap (λ (n : LaneNode). n.shared.counts) c.node.ensures.value)
          ∙ sym (map-range_with_len_more (λ i. (core.nodes i).shared.counts) 0 k k (omega arith));
    }
