-- Row by row.
use Rattle.std.proofs.Common.{◌≡◌, ◌<◌, true, false, ap, sym, ◌∙◌, length, get_or, inl, inr, subst, arith}
use Rattle.std.proofs.lemmas.Bool.Decides.{eqb_tells}
use Rattle.block_layout.specs.Layout.{Shape}
use Rattle.dsm_core.specs.CoreParts.{work_of, core_of}
use Rattle.shared_sim.proofs.Rows.{allowed_from, row_few, count_more, row_listed}
use Rattle.shared_sim.proofs.listing.Listing.sum_up.Goals as goal
use Rattle.shared_sim.proofs.listing.Listing.sum_up.Goals.{then-calm, else-calm}

pub overflow_cast-count : goal.overflow_cast-count
overflow_cast-count c =
    let p = c.args.core.now in
    let l = c.loop-node in
    let end = c.nodes-node-end.ensures.nodes ∙ ap (λ (s : Shape). s.nodes) c.layout.ensures.value in
    let low : l.node < p.layout.nodes = omega (arith, c.loop-node-test.true, end) in
    let row = c.index.result.now in
    let most = row_few (work_of p) (core_of p) l.node row.items
    (row_listed p c.args.self.now l.node row (c.requires.told l.node low) c.index.ensures) in
    omega (arith, most, c.requires.few, c.len.ensures, row.ok)

pub overflow_add-count : goal.overflow_add-count
overflow_add-count c =
    let p = c.args.core.now in
    let l = c.loop-node in
    let end = c.nodes-node-end.ensures.nodes ∙ ap (λ (s : Shape). s.nodes) c.layout.ensures.value in
    let low : l.node < p.layout.nodes = omega (arith, c.loop-node-test.true, end) in
    let row = c.index.result.now in
    let most = row_few (work_of p) (core_of p) l.node row.items
    (row_listed p c.args.self.now l.node row (c.requires.told l.node low) c.index.ensures) in
    omega (arith, most, c.requires.few, c.len.ensures, row.ok, l.invariant.few, low)

pub loop-node-preserved : goal.loop-node-preserved
loop-node-preserved c =
    let p = c.args.core.now in
    let l = c.loop-node in
    let mail = c.args.self.now.no_mail in
    let end = c.nodes-node-end.ensures.nodes ∙ ap (λ (s : Shape). s.nodes) c.layout.ensures.value in
    let low : l.node < p.layout.nodes = omega (arith, c.loop-node-test.true, end) in
    let row = c.index.result.now in
    let listed = row_listed p c.args.self.now l.node row (c.requires.told l.node low) c.index.ensures in
    let most = row_few (work_of p) (core_of p) l.node row.items listed in
    let more = count_more (work_of p) (core_of p) l.node row.items listed in
    record {
      count = omega (arith, more, l.invariant.count, c.len.ensures, row.ok);
      few = omega (arith, most, c.requires.few, c.len.ensures, row.ok, l.invariant.few);
      calm = λ calm i below. elim c.if-calm.branch [
        | then-calm w ↦ (elim (eqb_tells i l.node) [
          | inl e ↦ ap (λ k. get_or mail k false) e.1 ∙ sym w.calm-is ∙ calm
          | inr e ↦ l.invariant.calm w.if-calm.true i (let apart = e.1 in omega (arith, apart, below))
        ])
        | else-calm w ↦ absurd (not_true (sym w.if-calm.false ∙ sym w.calm-is ∙ calm))
      ];
    }
  where
    not_true : false ≡ true → ⊥
    not_true e = absurd (cc)

pub returns : goal.returns
returns c =
    let p = c.args.core.now in
    let l = c.loop-node in
    let end = c.nodes-node-end.ensures.nodes ∙ ap (λ (s : Shape). s.nodes) c.layout.ensures.value in
    let done : l.node ≡ p.layout.nodes = omega (arith, c.loop-node-test.false, end, l.auto.node-end) in
    record {
      lists = record {
        shape = record { rows = c.requires.shape.rows; room = c.requires.shape.room };
        tells = λ i low. record { row = (c.requires.told i low).row; mail = (c.requires.told i low).mail };
        count = l.invariant.count ∙ ap (λ k. length (allowed_from (work_of p) (core_of p) 0 k)) done;
        few = omega (arith, l.invariant.few, done, c.requires.few);
        calm = λ calm i low. (c.requires.told i low).mail
            (l.invariant.calm calm i (subst (λ k. i < k) (sym done) low));
      };
    }
