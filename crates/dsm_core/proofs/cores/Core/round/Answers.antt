-- A node more.
use Rattle.std.proofs.Common.{◌≡◌, ◌<◌, false, true, ◌∙◌, refl, sym, subst, inl, inr, arith}
use Rattle.std.proofs.lemmas.Bool.Decides.{eqb_tells}
use Rattle.block_layout.specs.Layout.{Shape}
use Rattle.run_order.specs.node_model.Core.{Core}
use Rattle.run_order.specs.node_model.Node.{Work}
use Rattle.dsm_core.specs.CoreParts.{work_of, core_of}
use Rattle.dsm_core.specs.CoreSteps.{HasGone, IsStill, one_if}
use Rattle.dsm_core.proofs.Rounds.{gone_then, gone_still, gone_there, goes_there, still_there}
use Rattle.dsm_core.proofs.cores.Core.round.Goals as goal
use Rattle.dsm_core.proofs.cores.Core.round.Goals.{then-branch, else-branch}

pub turn-requires : goal.turn-requires
turn-requires c =
    let test = c.loop-node-test.true in
    let count = c.nodes-count.ensures.nodes in
    let layout = c.layout.ensures.value in
    record {
      node = subst (λ (w : Work). c.loop-node.node < w.layout.nodes)
          (sym c.loop-node.invariant.work)
          (subst (λ (l : Shape). c.loop-node.node < l.nodes) layout
          (subst (λ n. c.loop-node.node < n) count test));
    }

pub returns-in_err-turn-clause-leads : goal.returns-in_err-turn-clause-leads
returns-in_err-turn-clause-leads c =
    let p = c.args.self.now in
    let q = c.loop-node.self in
    goes_there (work_of q) (work_of p) (core_of p) (core_of q) (core_of c.turn.new.self)
    c.loop-node.invariant.work c.loop-node.invariant.gone.goes.goes c.turn.ensures.leads

pub loop-node-preserved : goal.loop-node-preserved
loop-node-preserved c =
    let p = c.args.self.now in
    let q = c.loop-node.self in
    let r = c.turn.new.self in
    let i = c.loop-node.node in
    let same = c.loop-node.invariant.work in
    let last = gone_there (work_of q) (work_of p) (one_if c.in_ok-turn.field-0) (core_of q) (core_of r)
    same c.in_ok-turn.ensures.gone in
    elim c.if-branch.branch [
      | then-branch w ↦ (
          let one = subst (λ b. HasGone (work_of p) (one_if b) (core_of q) (core_of r))
          w.if-branch.true last in
          record {
            gone = subst (λ b. HasGone (work_of p) (one_if b) (core_of p) (core_of r))
                (sym w.moved-is)
                (gone_then (work_of p) (one_if c.loop-node.moved) (core_of p) (core_of q) (core_of r)
                c.loop-node.invariant.gone one);
            work = c.turn.ensures.work ∙ same;
            still = λ none. (let bad : true ≡ false = sym w.moved-is ∙ none in absurd (cc));
          })
      | else-branch w ↦ (
          let none = subst (λ b. HasGone (work_of p) (one_if b) (core_of q) (core_of r))
          w.if-branch.false last in
          record {
            gone = subst (λ b. HasGone (work_of p) (one_if b) (core_of p) (core_of r))
                (sym w.moved-is)
                (gone_still (work_of p) (one_if c.loop-node.moved) (core_of p) (core_of q)
                (core_of r) c.loop-node.invariant.gone none);
            work = c.turn.ensures.work ∙ same;
            still = λ not k below. elim (eqb_tells k i) [
              | inl t ↦ subst (λ n. IsStill (work_of p) n (core_of r)) (sym t.1)
                  (still_there (work_of q) (work_of p) i (core_of r) same
                  (c.in_ok-turn.ensures.still w.if-branch.false))
              | inr t ↦ subst (λ (z : Core). IsStill (work_of p) k z) (sym (none.same refl))
                  (c.loop-node.invariant.still (sym w.moved-is ∙ not) k
                  (let other = t.1 in omega (arith, other, below)))
            ];
          })
    ]
