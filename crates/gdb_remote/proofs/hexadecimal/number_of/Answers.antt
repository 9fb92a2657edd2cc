use Rattle.std.proofs.Common.{◌<◌, length, drop, arith, length-drop, sym, ◌∙◌}
use Rattle.gdb_remote.proofs.Hexadecimals.{too_long, number_of_some}
use Rattle.gdb_remote.proofs.hexadecimal.number_of.Goals as goal

pub returns-then-number-ge-LAST_DIGIT : goal.returns-then-number-ge-LAST_DIGIT
returns-then-number-ge-LAST_DIGIT c =
    let text = c.args.text.now in
    let left : 0 < length (drop c.loop-digit.digit-index text) = simp length-drop (omega arith) in
    let some : 0 < length text = omega arith in
    sym (too_long c.loop-digit.number (drop c.loop-digit.digit-index text) (omega arith) left)
    ∙ c.loop-digit.invariant ∙ sym (number_of_some text some)
