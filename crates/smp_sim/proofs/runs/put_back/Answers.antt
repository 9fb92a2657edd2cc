-- One node more has its lane put back.
use Rattle.std.proofs.Common.{◌<◌, ◌∙◌, None, get_or, inl, inr, length, length-set, set, subst, sym, arith}
use Rattle.std.proofs.lemmas.List.{get_or-set_same, get_or-set_other}
use Rattle.std.proofs.lemmas.Bool.Decides.{eqb_tells}
use Rattle.lane_machine.specs.SmpNodesInUse.{IsSameNode}
use Rattle.lane_machine.specs.declared.node.SmpNode.{SmpNode}
use Rattle.smp_sim.proofs.TurnsInUse.{a_node, put_back_at}
use Rattle.smp_sim.proofs.runs.put_back.Goals as goal

pub put_back-requires : goal.put_back-requires
put_back-requires c =
    let l = c.loop-node in
    let r = c.requires.rest in
    let h = l.invariant in
    let test = c.loop-node-test.true in
    let end = c.len-node-end.ensures in
    let long = h.long in
    let low : l.node < length c.args.nodes.now.items = omega (arith, test, end, long) in
    let below : l.node < length r.1 = subst (λ z. l.node < z) (sym r.2) low in
    let y = a_node r.1 l.node below in
    let x = c.index_mut.result.now in
    record {
      node = (
        r.0,
        get_or r.1 l.node y,
        put_back_at c.args.nodes.now.items l.nodes.items c.args.used.now l.used l.node r.1 low h.left
            h.used_left r.4 x c.index_mut.ensures.value y,
        r.3 l.node y below,
      );
    }

pub loop-node-preserved : goal.loop-node-preserved
loop-node-preserved c =
    let l = c.loop-node in
    let h = l.invariant in
    let xs = l.nodes.items in
    let k = l.node in
    let x = c.index_mut.result.now in
    let x2 = c.put_back.new.self in
    let u2 = c.put_back.new.used in
    let test = c.loop-node-test.true in
    let end = c.len-node-end.ensures in
    let long = h.long in
    let low : k < length c.args.nodes.now.items = omega (arith, test, end, long) in
    let here : k < length xs = omega (arith, test, end) in
    record {
      long = length-set xs k x2 ∙ h.long;
      done = λ ys many rests i a b below. elim (eqb_tells i k) [
        | inl e ↦ (
            let rest = put_back_at c.args.nodes.now.items xs c.args.used.now l.used k ys low h.left
            h.used_left rests x c.index_mut.ensures.value b in
            subst (λ j. IsSameNode (get_or ys j b) (get_or (set xs k x2) j a)) (sym e.1)
            (subst (λ (z : SmpNode). IsSameNode (get_or ys k b) z)
            (sym (get_or-set_same xs k x2 a here)) (c.put_back.ensures.same (get_or ys k b) rest)))
        | inr e ↦ subst (λ (z : SmpNode). IsSameNode (get_or ys i b) z)
            (sym (get_or-set_other xs k i x2 a e.1))
            (h.done ys many rests i a b (let f = e.1 in omega (arith, f, below)))
      ];
      left = λ i a above. get_or-set_other xs k i x2 a (λ e. omega (arith, e, above))
          ∙ h.left i a (omega (arith, above));
      used_left = λ i above. get_or-set_other l.used k i u2 None (λ e. omega (arith, e, above))
          ∙ h.used_left i (omega (arith, above));
    }
