-- No words, and one sum.
use Rattle.std.proofs.Common.{◌≡◌, ℕ, ◌∙◌, List, [], ◌∷◌, ◌++◌, length, ap, arith}
use Rattle.std.specs.Prelude.{slice_index_or}
use Rattle.word_visits.specs.Visits.{WordVisits}
use Rattle.word_visits.proofs.TableLemmas.{length_visits}
use Rattle.word_visits.proofs.tallies.Tallies.of.Goals as goal

pub invariant_of-result : goal.invariant_of-result
invariant_of-result c =
    let sums : c.push.new.self.items ≡ 0 ∷ [] =
    c.in_ok-push.ensures.items ∙ ap (λ (xs : List ℕ). xs ++ 0 ∷ []) c.in_ok-sums.ensures.items in
    let one = ap (λ (xs : List ℕ). length xs) sums in
    let none = ap (λ (vs : List WordVisits). length vs) c.in_ok-words.ensures.none in
    let entries = length_visits 0 0 c.in_ok-words.words.entries.items in
    record {
      count = omega (arith, one, none, entries);
      rise = λ k within. absurd (omega (arith, within, one));
      start = ap (λ (xs : List ℕ). slice_index_or xs 0 0) sums;
    }
