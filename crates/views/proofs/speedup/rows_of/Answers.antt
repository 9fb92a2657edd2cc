use Rattle.std.proofs.Common.{◌+◌, ◌++◌, ◌∷◌, [], sym, subst, take}
use Rattle.std.specs.Prelude.{All, Contains}
use Rattle.std.proofs.lemmas.List.Elements.{Contains-get_or}
use Rattle.std.proofs.lemmas.Result.{err_from_is_err_and}
use Rattle.command_line.specs.Views.{time_of}
use Rattle.text_output.proofs.Pieces.{refused_too}
use Rattle.judged_files.specs.Given.{bytes_of}
use Rattle.judged_files.specs.Refusals.{IsBadRunLayout, IsRunRefused}
use Rattle.speedup_page.specs.Rows.{IsFit}
use Rattle.views.specs.Speedup.{AreRowsOf, IsBadLayoutOf}
use Rattle.views.specs.Time.{costs_of}
use Rattle.views.proofs.Speeding.{one_count, one_fit, one_row}
use Rattle.views.proofs.speedup.rows_of.Goals as goal

pub returns-in_err-row-clause-refused : goal.returns-in_err-row-clause-refused
returns-in_err-row-clause-refused c =
    let inputs = bytes_of c.args.inputs.now in
    let counts = c.args.counts.now in
    let n = c.nodes-item.result in
    let among : Contains counts n = subst (Contains counts) (sym c.nodes-item.is)
    (Contains-get_or counts c.loop-nodes.nodes-index n c.loop-nodes-test.true) in
    let e = err_from_is_err_and c.from_residual.result c.from_residual.ensures.1 in
    rw (e.1, e.2) (refused_too (IsRunRefused inputs) (IsBadRunLayout inputs n) (IsRunRefused inputs)
    (IsBadLayoutOf inputs counts) c.in_err-row.field-0.0 (λ line h. h) (λ line h. (n, among, h))
    c.in_err-row.ensures.refused)

pub loop-nodes-preserved : goal.loop-nodes-preserved
loop-nodes-preserved c =
    let inputs = bytes_of c.args.inputs.now in
    let a = time_of c.args.arguments.now in
    let counts = c.args.counts.now in
    let i = c.loop-nodes.nodes-index in
    let n = c.nodes-item.result in
    let old = c.loop-nodes.rows.items in
    let row = c.in_ok-row.row in
    let pushed = sym c.in_ok-push_row.ensures in
    let more = one_count counts i n c.loop-nodes-test.true c.nodes-item.is in
    record {
      rows = subst (λ rs. AreRowsOf inputs a.budget (costs_of a) (take (i + 1) counts) rs) pushed
          (subst (λ ns. AreRowsOf inputs a.budget (costs_of a) ns (old ++ row ∷ [])) (sym more)
          (one_row inputs a.budget (costs_of a) (take i counts) old n row c.loop-nodes.invariant.rows
          c.in_ok-row.ensures.ok));
      fit = subst (All IsFit) pushed (one_fit IsFit old row c.loop-nodes.invariant.fit c.in_ok-row.ensures.fits);
    }
