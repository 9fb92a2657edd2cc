use Rattle.std.proofs.Common.{rules, ◌≡◌, ◌^◌, ℤ, Option, Some, Ok, subst}
use Rattle.rv32_decode.specs.Rows.{instruction_of}
use Rattle.rv32_decode.specs.declared.Instr.TheVariants.{Branch}
use Rattle.rv32_asm.specs.Standing.{IsFoundOffset}
use Rattle.rv32_asm.proofs.Wording.{branch_some, branch_none, branch_err}
use Rattle.rv32_asm.proofs.words.branch_word.Goals as goal

pub returns-in-Ok-Some : goal.returns-in-Ok-Some
returns-in-Ok-Some c = λ all t l i h low below.
    let f = subst (λ (o : Option ℤ). IsFoundOffset all c.args.at (2 ^ 12) t (Ok o)) c.in-Ok-Some.field-0-is
    (c.in-Ok-Some.ensures.value all t l h) in
    let e : instruction_of c.encode.result ≡ Some (Branch c.args.cond c.args.rs1 c.args.rs2 c.in-Ok-Some.offset) =
    search (rules, c.encode.ensures.again, c.new-offset.ensures) in
    branch_some all c.args.at c.args.cond c.args.rs1 c.args.rs2 c.encode.result t c.in-Ok-Some.offset i f e
    (c.ranges_law.ensures c.encode.result (Branch c.args.cond c.args.rs1 c.args.rs2 c.in-Ok-Some.offset) e)

pub returns-in-Ok-None : goal.returns-in-Ok-None
returns-in-Ok-None c = λ all t l i h low below.
    branch_none all c.args.at c.args.cond c.args.rs1 c.args.rs2 t low below
    (subst (λ (o : Option ℤ). IsFoundOffset all c.args.at (2 ^ 12) t (Ok o)) c.in-Ok-None.field-0-is
    (c.in-Ok-None.ensures.value all t l h))

pub returns-in-Err : goal.returns-in-Err
returns-in-Err c = λ all t l i h low below.
    branch_err all c.args.at c.args.cond c.args.rs1 c.args.rs2 t c.in-Err.rule low below
    (c.in-Err.ensures.value all t l h)
