use Rattle.std.proofs.Common.{◌≡◌, ◌∙◌}
use Rattle.dsm_core.specs.CoreParts.{work_of}
use Rattle.prepared_run.specs.Ready.{work_for}
use Rattle.commands.proofs.AnswerLemmas.{ok_as}
use Rattle.commands.proofs.run.raced_core.Goals as goal

pub returns-clause-work : goal.returns-clause-work
returns-clause-work g c =
    let p = c.args.prepared.now in
    let core = c.in_ok-core.core in
    let same : work_of core ≡ work_for p = c.in_ok-core.ensures.work ∙ c.work.ensures.value in
    ok_as (λ k. work_of k ≡ work_of core) (λ k. work_of k ≡ work_for p) c.race.result
    (λ k h. h ∙ same) c.race.ensures.work
