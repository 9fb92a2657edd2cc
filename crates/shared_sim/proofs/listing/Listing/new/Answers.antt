-- Node by node.
use Rattle.std.proofs.Common.{ap, ◌∙◌, subst, sym, inl, inr, arith}
use Rattle.std.proofs.lemmas.Bool.Decides.{eqb_tells}
use Rattle.block_layout.specs.Layout.{Shape}
use Rattle.shared_sim.specs.Listing.{Tells}
use Rattle.shared_sim.proofs.listing.Listing.new.Goals as goal

pub loop-node-preserved : goal.loop-node-preserved
loop-node-preserved c =
    let p = c.args.core.now in
    let l = c.loop-node in
    let made = c.list.ensures in
    record {
      shape = made.shape;
      told = λ i below. elim (eqb_tells i l.node) [
        | inl e ↦ subst (Tells p c.list.new.self) (sym e.1) made.told
        | inr e ↦ made.kept i e.1 (l.invariant.told i (let apart = e.1 in omega (arith, apart, below)))
      ];
    }

pub sum_up-requires-clause-told : goal.sum_up-requires-clause-told
sum_up-requires-clause-told c = λ i low.
    let l = c.loop-node in
    let end = c.nodes-node-end.ensures.nodes ∙ ap (λ (s : Shape). s.nodes) c.layout-2.ensures.value in
    l.invariant.told i (omega (arith, c.loop-node-test.false, end, low))
