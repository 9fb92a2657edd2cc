use Rattle.std.proofs.Common.{ap, ◌∙◌, sym}
use Rattle.std.proofs.lemmas.Result.{err_from_is_err_and}
use Rattle.dsm_core.specs.CoreParts.{outcome_of}
use Rattle.command_line.specs.Views.{time_of}
use Rattle.judged_files.specs.Given.{bytes_of}
use Rattle.prepared_run.specs.Ready.{work_for}
use Rattle.views.specs.Speedup.{row_from}
use Rattle.views.specs.Time.{costs_of}
use Rattle.views.proofs.Speeding.{few_spent, is_row}
use Rattle.views.proofs.speedup.row_of.Goals as goal

pub returns-in_err-prepared-clause-refused : goal.returns-in_err-prepared-clause-refused
returns-in_err-prepared-clause-refused c =
    let e = err_from_is_err_and c.from_residual.result c.from_residual.ensures.1 in
    rw (e.1, e.2) c.in_err-prepared.ensures.refused

pub row_from-requires-clause-few : goal.row_from-requires-clause-few
row_from-requires-clause-few c =
    let a = time_of c.args.arguments.now in
    let p = c.in_ok-prepared.prepared in
    let work = work_for p in
    let t = c.in_ok-timed.timed in
    let o = outcome_of t.outcome in
    few_spent work p.rewritten.plan (costs_of a) o t.spent.items t.time t.steps c.as_u8.result
    c.in_ok-timed.ensures.outcome
    (c.in_ok-prepared.ensures.asked.count ∙ sym c.as_u8.ensures.value) c.as_u8.ensures.range.1

pub returns-clause-ok : goal.returns-clause-ok
returns-clause-ok c =
    let a = time_of c.args.arguments.now in
    let inputs = bytes_of c.args.inputs.now in
    let n = c.args.nodes in
    let p = c.in_ok-prepared.prepared in
    let work = work_for p in
    let t = c.in_ok-timed.timed in
    let o = outcome_of t.outcome in
    is_row inputs n a.budget (costs_of a) p.program p.rewritten.plan work o t.spent.items t.time t.steps
    c.row_from.result c.in_ok-prepared.ensures.runs c.in_ok-prepared.ensures.asked
    c.in_ok-timed.ensures.outcome c.in_ok-timed.ensures.sums
    (c.row_from.ensures.value ∙ ap (λ k. row_from k o.ends t.spent.items t.time t.steps) c.as_u8.ensures.value)
