use Rattle.std.proofs.Common.{arith}
use Rattle.std.proofs.lemmas.Int.{ints}
use Rattle.rv32_lines.proofs.Signs.{negated}
use Rattle.rv32_lines.proofs.operands.negative_then.Goals as goal

pub returns-clause-some : goal.returns-clause-some
returns-clause-some c =
    let h = c.in_ok-number.ensures.some in
    negated c.in_ok-number.number h.0 _ c.args.digits.now c.in_ok-number.rest.now h.1
    (omega (arith, c.if-number-eq0.false)) h.2 (omega (arith, ints, c.from.ensures))
