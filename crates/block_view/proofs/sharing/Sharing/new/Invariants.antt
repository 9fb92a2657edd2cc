use Rattle.block_view.proofs.Writing.{AreUnwritten}
use Rattle.block_view.proofs.sharing.Sharing.new.Given as goal

-- so many blocks that nobody has written
abbrev pub invariant-loop : goal.invariant-loop
invariant-loop l = AreUnwritten l.writers.items l.counter
