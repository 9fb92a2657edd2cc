-- The first event that can't be made.
use Rattle.std.proofs.Common.{◌≡◌, Err, ap, sym, ◌∙◌, subst, inl}
use Rattle.std.proofs.lemmas.Result.{err_from_is_err_and}
use Rattle.run_order.specs.node_model.Node.{Work}
use Rattle.run_record.specs.declared.Record.{Record}
use Rattle.dsm_core.specs.CoreParts.{work_of}
use Rattle.replay.specs.declared.refused.ReplayRefused.TheVariants.{Broken}
use Rattle.replay.specs.Refusals.{IsFirstBroken}
use Rattle.replay.proofs.replay.Goals as goal

pub returns-in_err-make_all-clause-refused : goal.returns-in_err-make_all-clause-refused
returns-in_err-make_all-clause-refused c = λ rule node entry err.
    let run = c.in_ok-run.run' in
    let made = c.in_ok-run.ensures in
    let p = err_from_is_err_and c.from_residual-in_err-make_all.result
    c.from_residual-in_err-make_all.ensures.1 in
    let same : p.0 ≡ Broken rule node entry =
    (let e = sym p.1 ∙ err in cc) in
    inl (subst (λ (w : Work). IsFirstBroken w c.args.rec.now rule node entry) made.work
    (subst (λ (r : Record). IsFirstBroken (work_of run.core) r rule node entry) made.rec
    (c.in_err-make_all.ensures.refused rule node entry (ap Err (sym p.2 ∙ same)))))
