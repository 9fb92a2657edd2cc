use Rattle.std.proofs.Common.{◌≡◌, ◌++◌, drop}
use Rattle.prepared_run.specs.Text.{node_lines}
use Rattle.prepared_run.proofs.nodes.push_nodes.Given as goal

-- the lines that are to come, behind those that there are, make the whole
abbrev pub invariant-loop-node : goal.invariant-loop-node
invariant-loop-node l = l.text.items ++ node_lines l.node (drop l.node l.counts) ≡ l.initial.text.items ++ node_lines 0 l.counts
