use Rattle.std.proofs.Common.{subst}
use Rattle.prepared_run.specs.Ready.{work_for}
use Rattle.views.proofs.Summed.{IsRefusedAt}
use Rattle.views.proofs.debugger.picks_of.Goals as goal

pub returns-in-Err-clause-refused : goal.returns-in-Err-clause-refused
returns-in-Err-clause-refused c =
    let kept = c.args.kept.now in
    let is = c.in-Err.is in
    c.refusal_of.ensures (work_for c.args.prepared.now) kept (λ rule node entry e.
    subst (λ w. IsRefusedAt w kept rule node entry) c.work.ensures.value
    (c.picks_of_record.ensures.refused rule node entry (cc)))
