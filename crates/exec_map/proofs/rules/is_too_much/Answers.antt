use Rattle.std.proofs.Common.{sym, arith}
use Rattle.std.proofs.lemmas.Bool.{lt-ltb}
use Rattle.exec_map.proofs.LineCounts.{kind_lines}
use Rattle.exec_map.proofs.rules.is_too_much.Goals as goal

pub returns-then-lines-gt-LINE_LIMIT : goal.returns-then-lines-gt-LINE_LIMIT
returns-then-lines-gt-LINE_LIMIT c =
    let more = kind_lines c.args.writable c.args.all.now c.loop-s.s-index _ c.is_writable.result c.lines-lines.result c.loop-s-test.true c.is_writable.ensures c.if-is_writable-writable.true c.lines-lines.ensures.value in
    sym (lt-ltb _ _ (omega (arith, more, c.loop-s.invariant.sum, c.if-lines-gt-LINE_LIMIT.true)))
