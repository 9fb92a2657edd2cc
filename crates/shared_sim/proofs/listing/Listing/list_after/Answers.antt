-- Each node's row is listed again, or stands.
use Rattle.std.proofs.Common.{◌<◌, ap, sym, ◌∙◌, subst, inl, inr, arith}
use Rattle.std.proofs.lemmas.Bool.Decides.{eqb_tells}
use Rattle.block_layout.specs.Layout.{Shape}
use Rattle.dsm_core.specs.CoreParts.{core_of}
use Rattle.shared_sim.specs.Listing.{HasShape, Tells}
use Rattle.shared_sim.specs.declared.listing.Listing.{Listing}
use Rattle.shared_sim.proofs.Rows.{no_wire}
use Rattle.shared_sim.proofs.listing.Listing.list_after.Goals as goal
use Rattle.shared_sim.proofs.listing.Listing.list_after.Goals.{then-other-node, else-other-node+else-has_wire}

pub loop-other-preserved : goal.loop-other-preserved
loop-other-preserved c =
    let p = c.args.core.now in
    let l = c.loop-other in
    let end = c.nodes-other-end.ensures.nodes ∙ ap (λ (s : Shape). s.nodes) c.layout.ensures.value in
    let low : l.other < p.layout.nodes = omega (arith, c.loop-other-test.true, end) in
    elim c.if-other-node.branch [
      | then-other-node w ↦
          (let made = w.list.ensures in
          record {
            shape = subst (λ (z : Listing). HasShape p.layout.nodes z) (sym w.self-is) made.shape;
            told = λ i below. subst (λ (z : Listing). Tells p z i) (sym w.self-is) (elim (eqb_tells i l.other) [
              | inl e ↦ subst (Tells p w.list.new.self) (sym e.1) made.told
              | inr e ↦ made.kept i e.1 (l.invariant.told i (let apart = e.1 in omega (arith, apart, below)))
            ]);
            others = λ i below apart none. subst (λ (z : Listing). Tells p z i) (sym w.self-is)
                (elim (eqb_tells i l.other) [
                  | inl e ↦ subst (Tells p w.list.new.self) (sym e.1) made.told
                  | inr e ↦ made.kept i e.1 (l.invariant.others i below apart none)
                ]);
          })
      | else-other-node+else-has_wire w ↦
          (let none = no_wire w.has_wire.result ((core_of p).list c.args.node l.other) w.has_wire.ensures.value w.if-has_wire.false in
          let here = l.invariant.others l.other low w.if-other-node.false none in
          record {
            shape = subst (λ (z : Listing). HasShape p.layout.nodes z) (sym w.self-is) l.invariant.shape;
            told = λ i below. subst (λ (z : Listing). Tells p z i) (sym w.self-is) (elim (eqb_tells i l.other) [
              | inl e ↦ subst (Tells p l.self) (sym e.1) here
              | inr e ↦ l.invariant.told i (let apart = e.1 in omega (arith, apart, below))
            ]);
            others = λ i below apart empty. subst (λ (z : Listing). Tells p z i) (sym w.self-is)
                (l.invariant.others i below apart empty);
          })
    ]

pub sum_up-requires-clause-told : goal.sum_up-requires-clause-told
sum_up-requires-clause-told c = λ i low.
    let l = c.loop-other in
    let end = c.nodes-other-end.ensures.nodes ∙ ap (λ (s : Shape). s.nodes) c.layout.ensures.value in
    l.invariant.told i (omega (arith, c.loop-other-test.false, end, low))
