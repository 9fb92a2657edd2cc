use Rattle.std.proofs.Common.{◌-◌, ◌^◌, rules}
use Rattle.std.proofs.lemmas.List.Sorted.{answers_always, ties_still_rise, IsNonDecreasingBy-from_sort_by_key}
use Rattle.block_view.proofs.Ordering.{ordered, sorted_by_block}
use Rattle.block_view.proofs.order.sort.Goals as goal

pub returns : goal.returns
returns c =
    ordered c.args.ranked.now.items c.sort_by_key.new.self.items c.in_ok-sort_by_key.ensures.permutation
    c.requires.1.fit
    (IsNonDecreasingBy-from_sort_by_key (λ r. 2 ^ 64 - 1 - r.cost) _ c.in_ok-sort_by_key.ensures.sorted
    (λ a r q k. search rules)) (ties_still_rise (λ r. r.block) (λ r. 2 ^ 64 - 1 - r.cost) _ _
    (sorted_by_block c.args.ranked.now.items c.requires.1.ascending)
    (c.sort_by_key.ensures.stable (λ r. 2 ^ 64 - 1 - r.cost) (answers_always _ _ _ (λ f a r g h. search rules))))
