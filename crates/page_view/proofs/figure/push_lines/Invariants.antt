use Rattle.std.proofs.Common.{◌≡◌, ◌++◌}
use Rattle.page_view.specs.Figure.{lines_of}
use Rattle.page_view.proofs.figure.push_lines.Given as goal

-- what there is, is that of the nodes so far
abbrev pub invariant-loop-node : goal.invariant-loop-node
invariant-loop-node l = l.out.items ≡ l.initial.out.items ++ lines_of l.layout.nodes l.shown.events l.node
