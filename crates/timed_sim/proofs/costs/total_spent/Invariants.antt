use Rattle.std.proofs.Common.{◌≡◌, ◌*◌, ◌^◌, ◌≤◌, drop}
use Rattle.timed_sim.specs.Clock.{clock_of, nothing_spent, spent_beside}
use Rattle.timed_sim.proofs.costs.total_spent.Given as goal

-- the total is that of what is so far and of what is to come, and not more than so many may spend
abbrev pub invariant-loop-more : goal.invariant-loop-more
invariant-loop-more l = record {
  value : spent_beside l.total (drop l.more-index l.spent) ≡ spent_beside nothing_spent l.spent;
  most : clock_of l.total ≤ 2 ^ 100 * l.more-index;
}
