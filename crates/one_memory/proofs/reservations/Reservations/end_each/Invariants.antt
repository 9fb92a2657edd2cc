use Rattle.one_memory.proofs.ReservedLemmas.{AreEnded}
use Rattle.one_memory.proofs.reservations.Reservations.end_each.Given as goal

abbrev pub invariant-loop-q : goal.invariant-loop-q
invariant-loop-q l = AreEnded l.layout l.p l.address l.initial.self-inside.each l.self-inside.each l.q l.any
