use Rattle.std.proofs.Common.{◌≡◌, ◌++◌}
use Rattle.block_view.specs.Kept.{counts_at}
use Rattle.block_view.specs.Text.{node_lines}
use Rattle.block_view.proofs.lines.push_nodes.Given as goal

-- the lines of the nodes so far
abbrev pub invariant-loop-node : goal.invariant-loop-node
invariant-loop-node l = l.out.items ≡ l.initial.out.items ++ node_lines (counts_at l.kept.nodes.items) l.node
