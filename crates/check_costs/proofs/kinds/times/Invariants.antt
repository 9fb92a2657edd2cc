use Rattle.std.proofs.Common.{◌≡◌, ◌≤◌, take}
use Rattle.check_costs.specs.Counts.{times}
use Rattle.check_costs.proofs.kinds.times.Given as goal

-- how many of those seen so far
abbrev pub invariant-loop-other : goal.invariant-loop-other
invariant-loop-other l = record {
  value : l.count ≡ times l.kind (take l.other-index l.kinds);
  few : l.count ≤ l.other-index;
}
