use Rattle.std.proofs.Common.{sym, ◌∙◌, subst, slice_index_or}
use Rattle.node_model.specs.Node.{no_counts}
use Rattle.event_text.specs.run_trace.Given.{traced_of}
use Rattle.event_text.specs.run_trace.Sums.{counts_from}
use Rattle.block_view.specs.Counts.{block_counts, misses_of}
use Rattle.block_view.specs.Sharing.{writes_of}
use Rattle.block_view.specs.Writers.{AreWritersOf}
use Rattle.block_view.proofs.Writing.{writes_more}
use Rattle.block_view.proofs.Costing.{cost_as, counts_more, total_more, misses_more}
use Rattle.block_view.proofs.sums.Sums.add.Goals as goal

pub returns-clause-more : goal.returns-clause-more
returns-clause-more c = λ seen h.
    let x = traced_of c.args.event.now in
    let costs = c.in_ok-add.ensures.costs (λ b i. block_counts b i seen) (λ b. misses_of b seen) h.costs in
    let totals = c.in_ok-add-2.ensures c.args.self.now.layout.now.nodes (λ i. counts_from i seen no_counts) h.totals in
    let shares = c.in_ok-add-3.ensures.writes (λ b. writes_of b seen) h.sharing in
    record {
      count = c.in_ok-add.ensures.count ∙ h.count;
      costs = λ b d within. cost_as _ _ _ _ _ (costs b d within)
          (λ i. sym (counts_more b i seen x no_counts)) (sym (misses_more b seen x));
      totals = record {
        all = totals.all;
        each = λ i low. totals.each i low ∙ sym (total_more i seen x no_counts);
      };
      writers = c.in_ok-add-3.ensures.count ∙ h.writers;
      sharing = λ b d within. subst (AreWritersOf (slice_index_or c.add-3.new.self.blocks.items b d))
          (sym (writes_more b seen x)) (shares b d within);
    }
