use Rattle.std.proofs.Common.{◌++◌, ap, ◌∙◌}
use Rattle.block_view.specs.Kept.{counts_at}
use Rattle.block_view.specs.Text.{node_line}
use Rattle.block_view.proofs.Texts.{next_line}
use Rattle.block_view.proofs.lines.push_nodes.Goals as goal

pub loop-node-preserved : goal.loop-node-preserved
loop-node-preserved c =
    next_line (λ i. node_line i (counts_at c.args.kept.now.nodes.items i)) c.loop-node.node c.args.out.now.items
    c.loop-node.out.items c.push_node.new.out.items c.loop-node.invariant
    (c.in_ok-push_node.ensures ∙ ap (λ k. c.loop-node.out.items ++ node_line c.loop-node.node k) c.of_node.ensures)
