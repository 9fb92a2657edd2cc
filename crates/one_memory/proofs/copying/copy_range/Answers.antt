use Rattle.std.proofs.Common.{◌*◌, arith}
use Rattle.one_memory.proofs.CopyLemmas.{none_copied, one_copied, same_lines, in_range}
use Rattle.one_memory.proofs.copying.copy_range.Goals as goal

pub loop-address-init : goal.loop-address-init
loop-address-init c = none_copied c.args.from.now c.args.to.now (64 * c.from-start.result)

pub copy_byte-requires : goal.copy_byte-requires
copy_byte-requires c =
    same_lines c.args.from.now c.args.to.now c.loop-address.to c.loop-address.invariant.ranges c.requires.same

pub loop-address-preserved : goal.loop-address-preserved
loop-address-preserved c =
    let made = c.copy_byte.ensures in
    one_copied c.args.from.now c.args.to.now c.loop-address.to c.copy_byte.new.to (64 * c.from-start.result) c.loop-address.address c.loop-address.invariant made.ranges made.copied made.kept

pub returns-clause-copied : goal.returns-clause-copied
returns-clause-copied c = λ a is.
    let at = in_range c.args.range a is in
    let low = at.0 in
    let high = at.1 in
    c.loop-address.invariant.copied a (omega (arith, low, c.from-start.ensures)) (omega (arith, high, c.from-start.ensures, c.from.ensures, c.loop-address-test.false))
