-- A word that counts.
use Rattle.word_visits.proofs.PassLemmas.{some_has}
use Rattle.word_visits.proofs.visiting.pass_one.Goals as goal

pub returns-clause-reads : goal.returns-clause-reads
returns-clause-reads c =
    some_has c.step_on.result _
    (λ looks. c.may_count.ensures c.if-not-may_count.false looks c.args.image.now c.args.at c.requires c.in_ok-op.ensures.value)
