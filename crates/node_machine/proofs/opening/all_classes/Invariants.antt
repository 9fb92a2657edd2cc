use Rattle.std.proofs.Common.{◌≡◌, map, take}
use Rattle.node_machine.specs.Opening.{read_only_class}
use Rattle.node_machine.proofs.opening.all_classes.Given as goal

abbrev pub invariant-loop-lines : goal.invariant-loop-lines
invariant-loop-lines l = record {
  items : l.classes.items ≡ map read_only_class (take l.lines-index l.ranges);
}
