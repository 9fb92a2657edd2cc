use Rattle.std.proofs.Common.{Some, refl, slice_index_or, subst, sym, ◌∙◌}
use Rattle.std.proofs.lemmas.Result.{on_ok_weaker}
use Rattle.event_text.specs.run_trace.Passing.{passed_of}
use Rattle.block_view.specs.Sharing.{writes_of}
use Rattle.block_view.specs.Writers.{AreWritersOf}
use Rattle.block_view.proofs.Passing.{costs_free, plain_free, totals_free}
use Rattle.block_view.proofs.Writing.{accessed, writes_more}
use Rattle.block_view.proofs.sums.Sums.add_passed.Goals as goal

pub returns-clause-more : goal.returns-clause-more
returns-clause-more c =
    let word = c.args.word.now in
    let x = passed_of word in
    let s = c.args.self.now in
    let free = plain_free _ (record { wants = refl; tally = refl; sends = refl; printed = refl; end = refl }) in
    on_ok_weaker c.add_access.result (λ shares seen h. record {
      count = h.count;
      costs = costs_free s.costs.blocks.items seen x free h.costs;
      totals = totals_free s.layout.now.nodes s.totals.nodes.items seen x free h.totals;
      writers = c.add_access.ensures.count ∙ h.writers;
      sharing = λ b d within. subst (AreWritersOf (slice_index_or c.add_access.new.self.blocks.items b d))
          (accessed (λ b. writes_of b seen) word.node b (Some word.access) ∙ sym (writes_more b seen x))
          (shares (λ b. writes_of b seen) h.sharing b d within);
    }) c.add_access.ensures.writes
