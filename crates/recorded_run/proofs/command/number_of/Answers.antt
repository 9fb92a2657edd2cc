use Rattle.std.proofs.Common.{◌<◌, length, drop, arith, length-drop, sym, ◌∙◌}
use Rattle.recorded_run.proofs.Digits.{too_long, number_of_some}
use Rattle.recorded_run.proofs.command.number_of.Goals as goal

pub returns-then-number-ge-LAST_DIGIT : goal.returns-then-number-ge-LAST_DIGIT
returns-then-number-ge-LAST_DIGIT c =
    let digits = c.args.digits.now in
    let left : 0 < length (drop c.loop-digit.digit-index digits) = simp length-drop (omega arith) in
    let some : 0 < length digits = omega arith in
    sym (too_long c.loop-digit.number (drop c.loop-digit.digit-index digits) (omega arith) left)
    ∙ c.loop-digit.invariant ∙ sym (number_of_some digits some)
