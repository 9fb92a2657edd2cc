use Rattle.std.proofs.Common.{◌-◌, ◌^◌, rules}
use Rattle.std.proofs.lemmas.List.Sorted.{answers_always, ties_still_rise, IsNonDecreasingBy-from_sort_by_key}
use Rattle.check_costs.specs.Text.{added}
use Rattle.check_costs.proofs.Ranking.{ordered, sorted_by_function}
use Rattle.check_costs.proofs.table.sort.Goals as goal

pub returns : goal.returns
returns c =
    ordered c.args.rows.now.items c.sort_by_key.new.self.items c.in_ok-sort_by_key.ensures.permutation
    c.requires.1.fit
    (IsNonDecreasingBy-from_sort_by_key (λ r. 2 ^ 64 - 1 - added r.counts) _ c.in_ok-sort_by_key.ensures.sorted
    (λ a r q k. search rules))
    (ties_still_rise (λ r. r.function) (λ r. 2 ^ 64 - 1 - added r.counts) _ _
    (sorted_by_function c.args.rows.now.items c.requires.1.ascending)
    (c.sort_by_key.ensures.stable (λ r. 2 ^ 64 - 1 - added r.counts)
    (answers_always _ _ _ (λ f a r g h. search rules))))
