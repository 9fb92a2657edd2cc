use Rattle.std.proofs.Common.{◌≡◌, drop}
use Rattle.miss_handlers.specs.Waits.{wait_in}
use Rattle.miss_handlers.proofs.search.find.Given as goal

abbrev pub invariant-loop-k : goal.invariant-loop-k
invariant-loop-k l = wait_in (drop l.k l.waits) l.block ≡ wait_in l.waits l.block
