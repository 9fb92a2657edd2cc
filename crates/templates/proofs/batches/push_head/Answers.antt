use Rattle.std.proofs.Common.{sym, subst}
use Rattle.std.specs.Prelude.{◌≤ℤ◌}
use Rattle.templates.specs.Code.{code_of}
use Rattle.templates.specs.Runs.{Reach, code_from}
use Rattle.templates.proofs.ReachLemmas.{reach_order}
use Rattle.templates.proofs.batches.push_head.Goals as goal

pub push_check-requires-clause-ordered : goal.push_check-requires-clause-ordered
push_check-requires-clause-ordered c =
    let e = c.args.entry.now in
    subst (λ (r : Reach). r.low ≤ℤ r.high) (sym c.reach_of_run-reach.ensures.value)
    (reach_order (code_from (code_of c.args.code.now) e.address e.run))
