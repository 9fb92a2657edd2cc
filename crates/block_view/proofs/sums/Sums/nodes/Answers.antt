use Rattle.std.proofs.Common.{ap, ◌∙◌, arith}
use Rattle.node_model.specs.Node.{no_counts}
use Rattle.event_text.specs.run_trace.Sums.{counts_from}
use Rattle.block_view.proofs.Costing.{as_list}
use Rattle.block_view.proofs.sums.Sums.nodes.Goals as goal

pub returns : goal.returns
returns c = λ seen h.
    c.deref.ensures.value
    ∙ as_list (λ i. counts_from i seen no_counts) c.args.self.now.layout.now.nodes 0 c.args.self.now.totals.nodes.items
    h.totals.all (λ i low. h.totals.each i low ∙ ap (λ k. counts_from k seen no_counts) (omega arith))
