use Rattle.std.proofs.Common.{pos, arith}
use Rattle.std.proofs.lemmas.Int.{ints}
use Rattle.rv32_lines.proofs.Signs.{negative_some, negative_only}
use Rattle.rv32_lines.proofs.operands.signed_then.Goals as goal

pub returns-in-Some-clause-some : goal.returns-in-Some-clause-some
returns-in-Some-clause-some c =
    negative_some c.args.text.now c.in-Some.digits.now c.negative_then.result c.in-Some.ensures.some
    c.negative_then.ensures.some

pub returns-in-Some-clause-only : goal.returns-in-Some-clause-only
returns-in-Some-clause-only c =
    negative_only c.args.text.now c.in-Some.digits.now c.negative_then.result c.in-Some.ensures.some
    c.negative_then.ensures.only

pub returns-clause-some : goal.returns-clause-some
returns-clause-some c =
    let h = c.in_ok-number.ensures.some in
    (pos h.0, omega (arith, ints, c.from.ensures, h.1), record { text_is = h.2.text_is; ends = h.2.ends })
