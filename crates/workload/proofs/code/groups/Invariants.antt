use Rattle.std.proofs.Common.{◌≡◌, ◌*◌, ◌-◌, ◌≤◌, ◌++◌, length}
use Rattle.workload.specs.Generated.{groups, group_count}
use Rattle.workload.proofs.code.groups.Given as goal

abbrev pub invariant-loop-group : goal.invariant-loop-group
invariant-loop-group l = record {
  items : l.code.items ++ groups (group_count - l._group) l.ahead ≡ groups group_count l.fn.number;
  few : length l.code.items ≤ 3 * l._group;
}
