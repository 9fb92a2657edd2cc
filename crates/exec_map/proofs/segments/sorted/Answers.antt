use Rattle.std.proofs.Common.{rules}
use Rattle.std.proofs.lemmas.List.Sorted.{IsNonDecreasingBy-from_sort_by_key}
use Rattle.exec_map.proofs.Ordering.{sorted_is}
use Rattle.exec_map.proofs.segments.sorted.Goals as goal

pub returns : goal.returns
returns c =
    sorted_is c.args.all.now c.in_ok-sorted.sorted.items c.sort_unstable_by_key.new.self.items c.requires c.in_ok-sorted.ensures c.sort_unstable_by_key.ensures.permutation
    (IsNonDecreasingBy-from_sort_by_key (λ s. s.vaddr) _ c.sort_unstable_by_key.ensures.sorted (λ a r q k. search rules))
