-- Each node of the loop was over.
use Rattle.std.proofs.Common.{◌≡◌, ◌<◌, true, false, ◌∙◌, refl, sym, ap, subst, inl, inr, arith}
use Rattle.std.proofs.lemmas.Bool.Decides.{eqb_tells}
use Rattle.lane_model.specs.Nodes.{opening_node}
use Rattle.lane_model.specs.Core.{is_over}
use Rattle.lane_machine.specs.SmpNodes.{lane_work, node_in}
use Rattle.smp_sim.specs.CoreParts.{core_with}
use Rattle.smp_sim.proofs.CoreSteps.{node_at, read_at}
use Rattle.smp_sim.proofs.steps.are_over.Goals as goal

pub returns-then-not-over : goal.returns-then-not-over
returns-then-not-over c =
    let w = lane_work c.args.work.now in
    let ns = c.args.nodes.now in
    let i = c.loop-node.node in
    let x = c.index-nodes-node.result in
    let is = c.index-nodes-node.is in
    let few = subst (λ z. i < z) c.nodes-count.ensures.nodes c.loop-node-test.true in
    let below = subst (λ z. i < z) (sym c.requires.stored.count) few in
    let told = c.over.ensures.value w i (node_at w ns i x c.requires.stored.each below is)
    ∙ ap (is_over w) (sym (read_at (node_in w i) ns i x (opening_node w i) below is)) in
    record {
      value = (
        λ t j low. (let bad : false ≡ true = t in cc),
        λ over. sym c.if-not-over.true ∙ told ∙ over i few,
      );
    }

pub loop-node-preserved : goal.loop-node-preserved
loop-node-preserved c =
    let w = lane_work c.args.work.now in
    let ns = c.args.nodes.now in
    let i = c.loop-node.node in
    let x = c.index-nodes-node.result in
    let is = c.index-nodes-node.is in
    let few = subst (λ z. i < z) c.nodes-count.ensures.nodes c.loop-node-test.true in
    let below = subst (λ z. i < z) (sym c.requires.stored.count) few in
    let told = c.over.ensures.value w i (node_at w ns i x c.requires.stored.each below is)
    ∙ ap (is_over w) (sym (read_at (node_in w i) ns i x (opening_node w i) below is)) in
    record {
      over = λ j low. elim (eqb_tells j i) [
        | inl t ↦ subst (λ k. is_over w ((core_with w ns c.args.lists.now).nodes k) ≡ true) (sym t.1)
            (sym told ∙ c.if-not-over.false)
        | inr t ↦ c.loop-node.invariant.over j (let other = t.1 in omega (arith, other, low))
      ];
    }

pub returns : goal.returns
returns c = record {
  value = (
    λ t j low. c.loop-node.invariant.over j
        (let few = subst (λ z. j < z) (sym c.nodes-count.ensures.nodes) low in
        let all = c.loop-node-test.false in omega (arith, few, all)),
    λ over. refl,
  );
}
