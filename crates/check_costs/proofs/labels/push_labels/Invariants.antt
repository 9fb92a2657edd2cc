use Rattle.std.proofs.Common.{◌≡◌, ◌++◌, map, drop}
use Rattle.check_costs.specs.Tally.{label_in}
use Rattle.check_costs.proofs.labels.push_labels.Given as goal

-- the labels that are to come, behind those that there are, make the whole
abbrev pub invariant-loop-kind : goal.invariant-loop-kind
invariant-loop-kind l =
    l.labels.items ++ map (label_in l.function) (drop l.kind-index l.kinds)
    ≡ l.initial.labels.items ++ map (label_in l.function) l.kinds
