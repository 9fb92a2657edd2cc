use Rattle.std.proofs.Common.{◌≡◌, ◌++◌, ap, ◌∙◌, subst}
use Rattle.run_trace.specs.Sums.{counts_by_node}
use Rattle.block_view.specs.Kept.{layout_in}
use Rattle.block_view.specs.Text.{IsBlocksText}
use Rattle.prepared_run.specs.Text.{node_lines}
use Rattle.views.proofs.blocks.text_of.Goals as goal

pub returns : goal.returns
returns c = λ seen h.
    let layout = layout_in c.args.sums.now in
    let nodes : c.push_nodes.new.text.items ≡ node_lines 0 (counts_by_node layout.nodes seen) =
    c.in_ok-push_nodes.ensures ∙ ap (λ l. l ++ node_lines 0 c.nodes.result.now) c.new-text.ensures.items
    ∙ ap (node_lines 0) (c.nodes.ensures seen h) in
    subst (λ old. IsBlocksText layout c.args.symbols.now seen old c.push_lines.new.out.items) nodes (c.in_ok-push_lines.ensures seen h)
