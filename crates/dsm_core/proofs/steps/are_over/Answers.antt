-- Each node of the loop was over.
use Rattle.std.proofs.Common.{◌≡◌, ◌<◌, true, false, ◌∙◌, refl, sym, subst, inl, inr, arith}
use Rattle.std.proofs.lemmas.Bool.Decides.{eqb_tells}
use Rattle.run_order.specs.node_model.declared.Standing.TheVariants.{Over}
use Rattle.run_order.specs.node_model.Node.{standing_of}
use Rattle.dsm_core.specs.CoreParts.{core_with}
use Rattle.dsm_core.proofs.steps.are_over.Goals as goal

pub returns-then-not-is_over : goal.returns-then-not-is_over
returns-then-not-is_over c = record {
  value = λ work lists e have. (
    λ t i below. (let bad : false ≡ true = t in cc),
    λ over. sym c.if-not-is_over.true
        ∙ c.is_over.ensures.1 (c.standing.ensures.value work lists have
        ∙ over c.loop-node.node (subst (λ z. c.loop-node.node < z) (sym e) c.loop-node-test.true)),
  );
}

pub loop-node-preserved : goal.loop-node-preserved
loop-node-preserved c = record {
  over = λ work lists have i below. elim (eqb_tells i c.loop-node.node) [
    | inl t ↦ subst (λ k. standing_of work ((core_with work c.args.nodes.now lists).nodes k) ≡ Over)
        (sym t.1) (sym (c.standing.ensures.value work lists have)
        ∙ c.is_over.ensures.0 c.if-not-is_over.false)
    | inr t ↦ c.loop-node.invariant.over work lists have i
        (let other = t.1 in omega (arith, other, below))
  ];
}

pub returns : goal.returns
returns c = record {
  value = λ work lists e have. (
    λ t i below. c.loop-node.invariant.over work lists have i
        (let few = subst (λ z. i < z) e below in let all = c.loop-node-test.false in
        omega (arith, few, all)),
    λ over. refl,
  );
}
