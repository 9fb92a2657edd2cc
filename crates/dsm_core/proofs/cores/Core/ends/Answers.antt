-- One node more, which has ended.
use Rattle.std.proofs.Common.{◌<◌, ◌≤◌, ◌∷◌, [], ◌++◌, List, Option, Some, length, map, ap, ap₂, ◌∙◌, sym, subst, arith}
use Rattle.std.specs.Vec.{vec_capacity}
use Rattle.std.proofs.lemmas.List.{length-append, map_push}
use Rattle.std.proofs.lemmas.List.FromFn.{map-range_with_len_more}
use Rattle.block_layout.specs.Layout.{Shape}
use Rattle.rv32_program.specs.declared.End.{End}
use Rattle.run_order.specs.node_model.Node.{Node, end_of}
use Rattle.dsm_core.specs.CoreParts.{work_of, core_of}
use Rattle.dsm_core.proofs.Printing.{over_ends}
use Rattle.dsm_core.proofs.cores.Core.ends.Goals.{in-Some, in_default}
use Rattle.dsm_core.proofs.cores.Core.ends.Goals as goal

pub loop-node-preserved : goal.loop-node-preserved
loop-node-preserved c =
    let p = c.args.self.now in
    let core = core_of p in
    let k = c.loop-node.node in
    let told = c.end.ensures.value ∙ ap (λ (n : Node). end_of n.phase) c.node.ensures.value in
    let below = subst (λ z. k < z) (c.nodes-count.ensures.nodes
    ∙ ap (λ (s : Shape). s.nodes) c.layout.ensures.value) c.loop-node-test.true in
    record {
      items = elim c.match-end.branch [
        | in-Some w ↦ ap (λ v. map (λ (e : End). Some e) v.items) w.ends-is
            ∙ ap (map (λ (e : End). Some e)) w.push_reserved.ensures.items
            ∙ map_push (λ (e : End). Some e) c.loop-node.ends.items w.in-Some.end
            ∙ ap₂ (λ (xs : List (Option End)) (x : Option End). xs ++ x ∷ [])
            c.loop-node.invariant.items (sym w.in-Some.is ∙ told)
            ∙ sym (map-range_with_len_more (λ i. end_of (core.nodes i).phase) 0 k k (omega arith))
        | in_default w ↦ absurd (over_ends (work_of p) (core.nodes k) (c.requires.over k below)
            (sym told ∙ w.in_default.is))
      ];
      len = elim c.match-end.branch [
        | in-Some w ↦ (let more = ap (λ v. length v.items) w.ends-is
            ∙ ap length w.push_reserved.ensures.items
            ∙ length-append c.loop-node.ends.items (w.in-Some.end ∷ []) in
            let few = c.loop-node.invariant.len in omega (arith, more, few))
        | in_default w ↦ (let same = ap (λ v. length v.items) w.ends-is in
            let few = c.loop-node.invariant.len in omega (arith, same, few))
      ];
      room = elim c.match-end.branch [
        | in-Some w ↦ subst (λ z. c.nodes-count.result ≤ z)
            (sym (ap vec_capacity w.ends-is ∙ w.push_reserved.ensures.capacity))
            c.loop-node.invariant.room
        | in_default w ↦ subst (λ z. c.nodes-count.result ≤ z) (sym (ap vec_capacity w.ends-is))
            c.loop-node.invariant.room
      ];
    }
