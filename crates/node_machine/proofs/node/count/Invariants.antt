use Rattle.std.proofs.Common.{◌≡◌, ◌≤◌}
use Rattle.node_words.specs.home_directory.Effects.{members}
use Rattle.node_words.specs.home_directory.Home.{count_of}
use Rattle.node_machine.proofs.node.count.Given as goal

abbrev pub invariant-loop-node : goal.invariant-loop-node
invariant-loop-node l = record {
  count : l.count ≡ count_of (members l.flags) l.node;
  few : l.count ≤ l.node;
}
