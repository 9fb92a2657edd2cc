use Rattle.word_visits.proofs.TableLemmas.{AreShortened}
use Rattle.word_visits.proofs.visits.short_strides.Given as goal

-- the strides so far are shortened
abbrev pub invariant-loop-kind : goal.invariant-loop-kind
invariant-loop-kind l = AreShortened l.kind-index l.kinds l.strides.items
