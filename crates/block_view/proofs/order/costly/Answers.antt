use Rattle.std.proofs.Common.{◌≡◌, ◌+◌, ◌<◌, ◌++◌, ◌∷◌, [], cond, ltb, ◌^◌, subst, sym, ◌∙◌, arith}
use Rattle.std.proofs.lemmas.List.FromFn.{filter_of_map_range_with_len_more}
use Rattle.block_view.specs.Counts.{block_counts, misses_of, cost_of}
use Rattle.block_view.specs.Order.{rank_of, AreUpTo}
use Rattle.block_view.proofs.Ordering.{one_more}
use Rattle.block_view.proofs.order.costly.Goals as goal

pub loop-block-preserved : goal.loop-block-preserved
loop-block-preserved c = record {
  value = λ seen h.
      let b = c.loop-block.block in
      let cost : c.in_ok-cost.cost ≡ cost_of c.args.nodes b seen =
      c.in_ok-cost.ensures (λ b i. block_counts b i seen) (λ b. misses_of b seen) h in
      c.in_ok-push_costly.ensures ∙ (λ t. c.loop-block.invariant.value seen h t
      ++ cond (ltb 0 (cost t)) (record { block = b; cost = cost t } ∷ []) [])
      ∙ sym (filter_of_map_range_with_len_more (λ r. ltb 0 r.cost) (λ k. rank_of c.args.nodes k seen)
      0 b b (omega arith));
  up_to =
      let b = c.loop-block.block in
      let fits : c.in_ok-cost.cost < 2 ^ 64 = omega arith in
      subst (λ xs. AreUpTo xs (b + 1)) (sym c.in_ok-push_costly.ensures)
      (one_more c.loop-block.ranked.items b c.in_ok-cost.cost fits (ltb 0 c.in_ok-cost.cost)
      c.loop-block.invariant.up_to);
}
