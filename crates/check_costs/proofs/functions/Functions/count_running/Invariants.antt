use Rattle.std.proofs.Common.{◌≡◌, ◌≤◌, ◌++◌, ℕ, List, length, take}
use Rattle.check_costs.specs.declared.functions.Function.{Function}
use Rattle.check_costs.specs.Sweep.{last_at}
use Rattle.check_costs.proofs.functions.Functions.count_running.Given as goal

-- so many are enough
abbrev pub invariant-loop-count : goal.invariant-loop-count
invariant-loop-count l = record {
  some : l.count ≤ length l.self.running.items;
  same : (ahead : List Function) (a : ℕ) → l.address ≤ a
      → last_at a (take l.count l.self.running.items ++ ahead) ≡ last_at a (l.self.running.items ++ ahead);
}

abbrev pub decreases-loop-count : goal.decreases-loop-count
decreases-loop-count l = l.count
