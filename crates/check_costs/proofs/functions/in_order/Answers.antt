use Rattle.std.proofs.Common.{◌≡◌, map, length, rules, sym, ◌∙◌, subst, arith}
use Rattle.std.proofs.lemmas.List.{length-map}
use Rattle.std.proofs.lemmas.List.Sorted.{answers_always, ties_still_rise, IsNonDecreasingBy-from_sort_by_key}
use Rattle.elf_symbols.specs.Given.{symbol_of}
use Rattle.check_costs.proofs.Ordering.{AreLast, in_order, sorted_by_later}
use Rattle.check_costs.proofs.functions.in_order.Goals as goal

pub returns : goal.returns
returns c =
    let table = c.args.functions.now in
    let fs = c.loop-later.sorted.items in
    let long = length-map table symbol_of in
    let all : c.loop-later.later ≡ length (map symbol_of table) =
    omega (arith, long, c.loop-later-test.false, c.loop-later.auto.later-end) in
    let h = subst (AreLast (map symbol_of table) fs) all c.loop-later.invariant in
    in_order (map symbol_of table) fs c.sort_by_key.new.self.items h c.in_ok-sort_by_key.ensures.permutation
    (sym c.sort_by_key.new.self.ok.0 ∙ c.sort_by_key.ensures.len ∙ c.loop-later.sorted.ok.0)
    (IsNonDecreasingBy-from_sort_by_key (λ r. r.begin) _ c.in_ok-sort_by_key.ensures.sorted
    (λ a r q k. search rules))
    (ties_still_rise (λ r. r.later) (λ r. r.begin) _ _
    (sorted_by_later (map symbol_of table) fs (length (map symbol_of table)) h)
    (c.sort_by_key.ensures.stable (λ r. r.begin) (answers_always _ _ _ (λ f a r g h. search rules))))
