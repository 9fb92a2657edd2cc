use Rattle.word_visits.proofs.TableLemmas.{AreSummed}
use Rattle.word_visits.proofs.visits.Visits.times.Given as goal

-- the entries so far are summed
abbrev pub invariant-loop-number : goal.invariant-loop-number
invariant-loop-number l = AreSummed l.self.behind l.number l.begun l.ended l.self.entries.items l.times.items
