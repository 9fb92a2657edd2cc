use Rattle.std.proofs.Common.{◌≡◌, ◌+◌, ◌*◌, ◌/◌, ◌%◌, ◌^◌, ◌<◌, ◌==◌, arith}
use Rattle.std.proofs.lemmas.Bool.{and_right}
use Rattle.exec_map.specs.Index.{have}
use Rattle.exec_map.proofs.Halving.{none_high}
use Rattle.exec_map.proofs.code.next_word.Goals as goal

pub returns-then-from-gt-LAST_WORD-clause-none : goal.returns-then-from-gt-LAST_WORD-clause-none
returns-then-from-gt-LAST_WORD-clause-none c = λ b le. and_right (b % 4 == 0) (have c.args.code.now b) (none_high (2 ^ 31) c.args.code.now b c.requires.low (omega arith))

pub returns-clause-low : goal.returns-clause-low
returns-clause-low c =
    let low : c.in_ok-next.next < 2 ^ 31 = c.in_ok-next.ensures.low (2 ^ 31) c.requires.low in
    let up : (c.args.from + 3) / 4 * 4 % 4 ≡ 0 = omega arith in
    let aligned : c.in_ok-next.next % 4 ≡ 0 = c.in_ok-next.ensures.whole up c.requires.whole in
    omega arith
