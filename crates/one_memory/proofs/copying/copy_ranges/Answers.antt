use Rattle.std.proofs.Common.{arith}
use Rattle.one_memory.proofs.CopyLemmas.{no_lines, no_range, one_range, all_ranges, same_lines}
use Rattle.one_memory.proofs.copying.copy_ranges.Goals as goal

pub loop-range-init : goal.loop-range-init
loop-range-init c = no_range c.args.from.now c.args.to.now c.args.ranges.now

pub copy_range-requires-clause-low : goal.copy_range-requires-clause-low
copy_range-requires-clause-low c = c.requires.low c.loop-range.range-index no_lines (omega (arith, c.loop-range-test.true))

pub copy_range-requires-clause-same : goal.copy_range-requires-clause-same
copy_range-requires-clause-same c =
    same_lines c.args.from.now c.args.to.now c.loop-range.to c.loop-range.invariant.ranges_are c.requires.same

pub loop-range-preserved : goal.loop-range-preserved
loop-range-preserved c =
    let made = c.copy_range.ensures in
    one_range c.args.from.now c.args.to.now c.loop-range.to c.copy_range.new.to c.args.ranges.now c.loop-range.range-index c.loop-range.invariant (omega (arith, c.loop-range-test.true)) made.ranges made.copied made.kept

pub returns-clause-copied : goal.returns-clause-copied
returns-clause-copied c =
    all_ranges c.args.from.now c.args.to.now c.loop-range.to c.args.ranges.now c.loop-range.range-index (omega (arith, c.loop-range-test.false)) c.loop-range.invariant
