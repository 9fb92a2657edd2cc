use Rattle.std.proofs.Common.{arith}
use Rattle.run_record.proofs.line.size_then.Goals as goal

pub returns-then-block-gt-MOST_BLOCK-clause-only : goal.returns-then-block-gt-MOST_BLOCK-clause-only
returns-then-block-gt-MOST_BLOCK-clause-only c = λ n rest few h.
    let same = c.in_ok-block.ensures.only n rest h in
    omega (arith, same.0, c.if-block-gt-MOST_BLOCK.true)

pub returns-clause-only : goal.returns-clause-only
returns-clause-only c = λ n rest few h. c.in_ok-block.ensures.only n rest h
