use Rattle.std.proofs.Common.{ℕ, Option, Ok, subst}
use Rattle.rv32_asm.specs.Standing.{IsFoundTarget}
use Rattle.rv32_asm.proofs.Naming.{offset_found, offset_unset, offset_refused}
use Rattle.rv32_asm.proofs.words.offset_of.Goals as goal

pub returns-in-Ok-Some-clause-value : goal.returns-in-Ok-Some-clause-value
returns-in-Ok-Some-clause-value c = λ all t l h.
    offset_found all c.args.at c.args.reach t c.in-Ok-Some.address c.offset_to.result
    (subst (λ (o : Option ℕ). IsFoundTarget all t (Ok o)) c.in-Ok-Some.field-0-is (c.in-Ok-Some.ensures all t l h))
    c.offset_to.ensures.value

pub returns-in-Ok-None-clause-value : goal.returns-in-Ok-None-clause-value
returns-in-Ok-None-clause-value c = λ all t l h.
    offset_unset all c.args.at c.args.reach t
    (subst (λ (o : Option ℕ). IsFoundTarget all t (Ok o)) c.in-Ok-None.field-0-is (c.in-Ok-None.ensures all t l h))

pub returns-in-Err-clause-value : goal.returns-in-Err-clause-value
returns-in-Err-clause-value c =
    λ all t l h. offset_refused all c.args.at c.args.reach t c.in-Err.rule (c.in-Err.ensures all t l h)
