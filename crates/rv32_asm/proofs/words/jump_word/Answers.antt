use Rattle.std.proofs.Common.{rules, ◌≡◌, ◌^◌, ℤ, Option, Some, Ok, subst}
use Rattle.rv32_decode.specs.Rows.{instruction_of}
use Rattle.rv32_decode.specs.declared.Instr.TheVariants.{Jal}
use Rattle.rv32_asm.specs.Standing.{IsFoundOffset}
use Rattle.rv32_asm.proofs.Wording.{jump_some, jump_none, jump_err}
use Rattle.rv32_asm.proofs.words.jump_word.Goals as goal

pub returns-in-Ok-Some : goal.returns-in-Ok-Some
returns-in-Ok-Some c = λ all t l i h low.
    let f = subst (λ (o : Option ℤ). IsFoundOffset all c.args.at (2 ^ 20) t (Ok o)) c.in-Ok-Some.field-0-is
    (c.in-Ok-Some.ensures.value all t l h) in
    let e : instruction_of c.encode.result ≡ Some (Jal c.args.rd c.in-Ok-Some.offset) =
    search (rules, c.encode.ensures.again, c.new-offset.ensures) in
    jump_some all c.args.at c.args.rd c.encode.result t c.in-Ok-Some.offset i f e
    (c.ranges_law.ensures c.encode.result (Jal c.args.rd c.in-Ok-Some.offset) e)

pub returns-in-Ok-None : goal.returns-in-Ok-None
returns-in-Ok-None c = λ all t l i h low.
    jump_none all c.args.at c.args.rd t low
    (subst (λ (o : Option ℤ). IsFoundOffset all c.args.at (2 ^ 20) t (Ok o)) c.in-Ok-None.field-0-is
    (c.in-Ok-None.ensures.value all t l h))

pub returns-in-Err : goal.returns-in-Err
returns-in-Err c =
    λ all t l i h low. jump_err all c.args.at c.args.rd t c.in-Err.rule low (c.in-Err.ensures.value all t l h)
