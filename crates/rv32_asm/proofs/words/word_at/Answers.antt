use Rattle.std.proofs.Common.{subst}
use Rattle.rv32_lines.specs.Reading.{IsReadCommand}
use Rattle.rv32_asm.proofs.Wording.{plain_found, too_large, jump_found, branch_found}
use Rattle.rv32_asm.proofs.words.word_at.Goals as goal

pub returns-in-Plain : goal.returns-in-Plain
returns-in-Plain c = λ all w l i h.
    plain_found all c.args.at c.in-Plain.instruction w c.encode.result i
    (subst (λ x. IsReadCommand x w) c.in-Plain.is h)
    (c.ranges_law.ensures c.encode.result c.in-Plain.instruction c.encode.ensures.again) c.encode.ensures.again
    c.encode.ensures.only

pub returns-in-OutOfRange : goal.returns-in-OutOfRange
returns-in-OutOfRange c = λ all w l i h. too_large all c.args.at w (subst (λ x. IsReadCommand x w) c.in-OutOfRange.is h)

pub returns-in-Jump : goal.returns-in-Jump
returns-in-Jump c = λ all w l i h.
    jump_found all c.args.at c.in-Jump.rd c.in-Jump.to w c.jump_word.result i
    (subst (λ x. IsReadCommand x w) c.in-Jump.is h)
    (λ t p r low. c.jump_word.ensures all t l p r low)

pub returns-in-Conditional : goal.returns-in-Conditional
returns-in-Conditional c = λ all w l i h.
    branch_found all c.args.at c.in-Conditional.cond c.in-Conditional.rs1 c.in-Conditional.rs2 c.in-Conditional.to w
    c.branch_word.result i
    (subst (λ x. IsReadCommand x w) c.in-Conditional.is h)
    (λ t p r low below. c.branch_word.ensures all t l p r low below)
