use Rattle.word_visits.proofs.TableLemmas.{ArePartedBelow}
use Rattle.word_visits.proofs.visits.part_strides.Given as goal

abbrev pub invariant-loop-at : goal.invariant-loop-at
invariant-loop-at l = ArePartedBelow l.number l.at l.initial.kinds l.kinds
