use Rattle.std.proofs.Common.{sym, ap, ◌∙◌, subst, rules}
use Rattle.std.specs.Prelude.{All}
use Rattle.std.specs.List.{list_any}
use Rattle.std.proofs.lemmas.List.Sorted.{IsNonDecreasingBy-from_sort_by_key, All-permutation, list_any-IsPermutation}
use Rattle.exec_map.specs.Index.{IsSome, IsOfWords, has}
use Rattle.exec_map.proofs.Words.{sections_some, sections_whole}
use Rattle.exec_map.proofs.code.of_sections.Goals as goal

pub merged-requires-clause-some : goal.merged-requires-clause-some
merged-requires-clause-some c =
    rw c.deref.ensures.value
    (All-permutation IsSome _ _ c.sort_unstable_by_key.ensures.permutation (subst (All IsSome) (sym c.in_ok-all.ensures) (sections_some c.args.sections.now)))

pub merged-requires-clause-sorted : goal.merged-requires-clause-sorted
merged-requires-clause-sorted c =
    rw c.deref.ensures.value
    (IsNonDecreasingBy-from_sort_by_key (λ r. r.first) _ c.sort_unstable_by_key.ensures.sorted (λ a r q k. search rules))

pub returns-clause-whole : goal.returns-clause-whole
returns-clause-whole c =
    c.in_ok-merged.ensures.whole
    (rw c.deref.ensures.value
    (All-permutation IsOfWords _ _ c.sort_unstable_by_key.ensures.permutation (subst (All IsOfWords) (sym c.in_ok-all.ensures) (sections_whole c.args.sections.now))))

pub returns-clause-words : goal.returns-clause-words
returns-clause-words c = λ a.
    c.in_ok-merged.ensures.numbers a
    ∙ ap (list_any (has a)) c.deref.ensures.value
    ∙ sym (list_any-IsPermutation (has a) _ _ c.sort_unstable_by_key.ensures.permutation)
    ∙ ap (list_any (has a)) c.in_ok-all.ensures
