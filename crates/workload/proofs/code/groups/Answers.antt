use Rattle.std.proofs.Common.{◌+◌, ◌-◌, ◌++◌, length, length-append, ap, ◌∙◌, arith}
use Rattle.workload.specs.Generated.{group_of, groups, group_count}
use Rattle.workload.proofs.Groups.{length-group_of, groups_first, groups_more, groups_last}
use Rattle.workload.proofs.code.groups.Goals as goal

pub loop-group-init : goal.loop-group-init
loop-group-init c =
    let none = c.new-code.ensures.items in
    let size = ap length none in
    record {
      items =
          ap (λ xs. xs ++ groups group_count c.args.number) none
          ∙ groups_first group_count c.args.number;
      few = omega (arith, size);
    }

pub loop-group-preserved : goal.loop-group-preserved
loop-group-preserved c =
    let l = c.loop-group in
    let ahead = c.after-ahead.ensures in
    let this = c.in_ok-push_group.ensures in
    let next = ap (λ x. l.code.items ++ group_of x) ahead in
    let size = ap length this in
    let both = length-append l.code.items (group_of c.after-ahead.result) in
    let few = length-group_of c.after-ahead.result in
    let before = l.invariant.few in
    record {
      items =
          ap (λ x. c.push_group.new.code.items ++ groups (group_count - (l._group + 1)) x) ahead
          ∙ groups_more group_count l._group l.ahead l.code.items c.push_group.new.code.items _
          c.loop-group-test.true l.invariant.items (this ∙ next);
      few = omega (arith, size, both, few, before);
    }

pub returns-clause-items : goal.returns-clause-items
returns-clause-items c =
    groups_last group_count c.loop-group._group c.loop-group.ahead c.loop-group.code.items _
    c.loop-group-test.false c.loop-group.invariant.items

pub returns-clause-few : goal.returns-clause-few
returns-clause-few c = omega (arith, c.loop-group.invariant.few)
