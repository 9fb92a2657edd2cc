use Rattle.std.proofs.Common.{[], sym, ◌∙◌}
use mathlib.Core.List.{append-nil}
use Rattle.rv32_lines.proofs.Signs.{not_empty}
use Rattle.rv32_lines.proofs.operands.register.Goals as goal

pub returns-in_err-number-clause-only : goal.returns-in_err-number-clause-only
returns-in_err-number-clause-only c =
    λ n e. absurd (c.in_err-number.ensures.only n [] (record { text_is = e ∙ sym (append-nil _); ends = tt }))

pub returns-else-is_empty-clause-only : goal.returns-else-is_empty-clause-only
returns-else-is_empty-clause-only c = λ n e.
    let told = c.in_ok-number.ensures.only n [] (record { text_is = e ∙ sym (append-nil _); ends = tt }) in
    absurd (not_empty c.in_ok-number.rest.now c.is_empty.result c.is_empty.ensures c.if-is_empty.false told.1)
