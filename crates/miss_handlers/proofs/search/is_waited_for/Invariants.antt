use Rattle.std.proofs.Common.{◌≡◌, drop}
use Rattle.miss_handlers.specs.Waits.{wait_in}
use Rattle.miss_handlers.proofs.search.is_waited_for.Given as goal

abbrev pub invariant-loop-waiting : goal.invariant-loop-waiting
invariant-loop-waiting l = wait_in (drop l.waiting-index l.waits) l.block ≡ wait_in l.waits l.block
