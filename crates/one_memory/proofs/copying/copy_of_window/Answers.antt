use Rattle.std.proofs.Common.{arith}
use Rattle.byte_range.specs.Window.{window_memory}
use Rattle.one_memory.proofs.CopyLemmas.{inside, none_own, one_own, all_own}
use Rattle.one_memory.proofs.copying.copy_of_window.Goals as goal

pub loop-address-init : goal.loop-address-init
loop-address-init c = none_own (window_memory c.args.from.now) (window_memory c.in_ok-window.window) c.in_ok-window.ensures.zeros

pub copy_own_byte-requires : goal.copy_own_byte-requires
copy_own_byte-requires c = inside c.loop-address.address (omega arith) (omega (arith, c.loop-address-test.true))

pub loop-address-preserved : goal.loop-address-preserved
loop-address-preserved c =
    one_own (window_memory c.args.from.now) (window_memory c.loop-address.window) (window_memory c.copy_own_byte.new.to) c.loop-address.address c.loop-address.invariant
    (inside c.loop-address.address (omega arith) (omega (arith, c.loop-address-test.true))) c.copy_own_byte.ensures

pub returns : goal.returns
returns c = λ is.
    all_own (window_memory c.args.from.now) (window_memory c.loop-address.window) c.loop-address.address (omega (arith, c.loop-address-test.false)) c.loop-address.invariant is
