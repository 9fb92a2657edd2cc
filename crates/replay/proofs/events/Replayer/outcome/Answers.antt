-- Each node is over, or the first that isn't.
use Rattle.std.proofs.Common.{◌≡◌, Err, ap, sym, ◌∙◌}
use Rattle.std.proofs.lemmas.Result.{err_from_is_err_and}
use Rattle.dsm_core.specs.CoreParts.{work_of, core_of, outcome_of}
use Rattle.replay.specs.declared.refused.ReplayRefused.TheVariants.{Broken}
use Rattle.replay.specs.Way.{left_at, last_at}
use Rattle.replay.proofs.Way.{replayed}
use Rattle.replay.proofs.events.Replayer.outcome.Goals as goal

pub returns-in_err-finish-clause-refused : goal.returns-in_err-finish-clause-refused
returns-in_err-finish-clause-refused c = λ rule node entry err.
    let p = err_from_is_err_and c.from_residual.result c.from_residual.ensures.1 in
    let same : p.0 ≡ Broken rule node entry = (let e = sym p.1 ∙ err in cc) in
    c.in_err-finish.ensures.refused rule node entry (ap Err (sym p.2 ∙ same))

pub outcome-requires : goal.outcome-requires
outcome-requires c = record { over = c.in_ok-finish.ensures.over }

pub returns-clause-ok : goal.returns-clause-ok
returns-clause-ok c =
    let a = c.args.self.now in
    let r = c.requires.running in
    replayed (work_of a.core) a.cursors.rec.now (left_at a.cursors) (last_at a.cursors)
    (core_of a.core) (outcome_of c.in_ok-outcome.field-0) (sym r.nodes) r.way c.requires.through
    c.in_ok-finish.ensures.over c.in_ok-outcome.ensures.outcome
