use Rattle.std.proofs.Common.{◌^◌, sym, arith}
use Rattle.std.proofs.lemmas.Bool.{lt-leb}
use Rattle.elf32_read.proofs.LimitsLemmas.{segment_past, section_past}
use Rattle.elf32_read.proofs.limits.are_small.Goals as goal

pub returns-then-total-gt-SIZE_LIMIT : goal.returns-then-total-gt-SIZE_LIMIT
returns-then-total-gt-SIZE_LIMIT c =
    let past = segment_past c.args.segments.now c.loop-s.s-index _ c.loop-s.total (2 ^ 30) c.loop-s-test.true c.loop-s.invariant.sum c.if-total-gt-SIZE_LIMIT.true in
    sym (lt-leb _ _ (omega arith))

pub returns-then-total-gt-SIZE_LIMIT-2 : goal.returns-then-total-gt-SIZE_LIMIT-2
returns-then-total-gt-SIZE_LIMIT-2 c =
    let past = section_past c.args.segments.now c.args.sections.now c.loop-s-2.s-index _ c.loop-s-2.total (2 ^ 30) c.loop-s-2-test.true c.loop-s-2.invariant.sum c.if-total-gt-SIZE_LIMIT-2.true in
    sym (lt-leb _ _ past)
