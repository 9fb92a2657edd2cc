-- One processor more, which has ended.
use Rattle.std.proofs.Common.{◌≡◌, ◌*◌, ◌/◌, ◌%◌, ◌<◌, ◌≤◌, ◌∷◌, [], ◌++◌, List, Option, Some, length, map, ap, ap₂, ◌∙◌, sym, subst, arith}
use Rattle.std.specs.Vec.{vec_capacity}
use Rattle.std.proofs.lemmas.List.{length-append, map_push}
use Rattle.std.proofs.lemmas.List.FromFn.{map-range_with_len_more}
use Rattle.rv32_program.specs.declared.End.{End}
use Rattle.lane_model.specs.node_model.Node.{end_of}
use Rattle.lane_model.specs.Nodes.{LaneNode, node_of, lane_of}
use Rattle.smp_sim.specs.CoreParts.{work_of, core_of}
use Rattle.smp_sim.proofs.CoreRuns.{placed, lane_low}
use Rattle.smp_sim.proofs.Ends.{over_ends}
use Rattle.smp_sim.proofs.cores.SmpCore.ends.Goals.{in-Some, in_default}
use Rattle.smp_sim.proofs.cores.SmpCore.ends.Goals as goal

pub loop-processor-preserved : goal.loop-processor-preserved
loop-processor-preserved c =
    let p = c.args.self.now in
    let w = work_of p in
    let core = core_of p in
    let q = c.loop-processor.processor in
    let i = node_of w q in
    let k = lane_of w q in
    let below = subst (λ z. q < z) (ap₂ (λ a b. a * b) c.node_count.ensures.value c.lanes-lanes.ensures.value)
    c.loop-processor-test.true in
    let m = c.lanes-lanes.result in
    let told = subst (λ z. c.end.result ≡ end_of ((core.nodes (q / z)).lanes (q % z)).phase)
    c.lanes-lanes.ensures.value (c.end.ensures.value w (q / m) c.node-node.ensures.is_node
    ∙ ap (λ (x : LaneNode). end_of (x.lanes (q % m)).phase) c.node-node.ensures.value) in
    record {
      items = elim c.match-end.branch [
        | in-Some v ↦ ap (λ z. map (λ (e : End). Some e) z.items) v.ends-is
            ∙ ap (map (λ (e : End). Some e)) v.push_reserved.ensures.items
            ∙ map_push (λ (e : End). Some e) c.loop-processor.ends.items v.in-Some.end
            ∙ ap₂ (λ (xs : List (Option End)) (x : Option End). xs ++ x ∷ [])
            c.loop-processor.invariant.items (sym v.in-Some.is ∙ told)
            ∙ sym (map-range_with_len_more (λ r. end_of ((core.nodes (node_of w r)).lanes (lane_of w r)).phase)
            0 q q (omega arith))
        | in_default v ↦ absurd (over_ends w (core.nodes i) k
            (c.requires.over i (placed w q c.lanes-lanes.ensures.some below)) (lane_low w q c.lanes-lanes.ensures.some)
            (sym told ∙ v.in_default.is))
      ];
      len = elim c.match-end.branch [
        | in-Some v ↦ (let more = ap (λ z. length z.items) v.ends-is
            ∙ ap length v.push_reserved.ensures.items
            ∙ length-append c.loop-processor.ends.items (v.in-Some.end ∷ []) in
            let few = c.loop-processor.invariant.len in omega (arith, more, few))
        | in_default v ↦ (let same = ap (λ z. length z.items) v.ends-is in
            let few = c.loop-processor.invariant.len in omega (arith, same, few))
      ];
      room = elim c.match-end.branch [
        | in-Some v ↦ subst (λ z. c.node_count.result * c.lanes-lanes.result ≤ z)
            (sym (ap vec_capacity v.ends-is ∙ v.push_reserved.ensures.capacity))
            c.loop-processor.invariant.room
        | in_default v ↦ subst (λ z. c.node_count.result * c.lanes-lanes.result ≤ z) (sym (ap vec_capacity v.ends-is))
            c.loop-processor.invariant.room
      ];
    }
