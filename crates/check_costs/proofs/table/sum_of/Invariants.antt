use Rattle.std.proofs.Common.{◌≡◌, take}
use Rattle.check_costs.specs.Counts.{total}
use Rattle.check_costs.proofs.table.sum_of.Given as goal

abbrev pub invariant-loop-more : goal.invariant-loop-more
invariant-loop-more l = l.sum ≡ total (take l.more-index l.counts)
