use Rattle.std.proofs.Common.{refl}
use Rattle.rv32_lines.specs.Statements.{Label, Instruction}
use Rattle.rv32_lines.proofs.Saying.{label_no_instruction}
use Rattle.rv32_lines.proofs.statements.label_or_command.Goals as goal

pub returns-in-Some-clause-some : goal.returns-in-Some-clause-some
returns-in-Some-clause-some c = (Label c.in-Some.name.now, c.in-Some.ensures.some, refl)

pub returns-in-Some-clause-command : goal.returns-in-Some-clause-command
returns-in-Some-clause-command c =
    λ w h. absurd (label_no_instruction c.args.line.now c.in-Some.name.now w c.in-Some.ensures.some h)

pub returns-in-Some-command_of-clause-some : goal.returns-in-Some-command_of-clause-some
returns-in-Some-command_of-clause-some c =
    let h = c.in-Some-command_of.ensures.some in
    (Instruction h.0, h.1, (h.1.written, h.2))
