use Rattle.std.proofs.Common.{ℕ, List, sym, subst}
use Rattle.word_visits.proofs.TableLemmas.{AreSummed, none_summed, ordered_is}
use Rattle.word_visits.proofs.visits.Visits.times.Goals as goal

pub loop-number-init : goal.loop-number-init
loop-number-init c =
    let v = c.args.self.now in
    subst (λ (ts : List ℕ). AreSummed v.behind 0 0 0 v.entries.items ts) (sym c.in_ok-times.ensures.items)
    (none_summed v.behind v.entries.items (ordered_is 0 0 v.behind v.entries.items v.ordered))
