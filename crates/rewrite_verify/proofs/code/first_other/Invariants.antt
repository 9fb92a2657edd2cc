use Rattle.rewrite_verify.proofs.WordLemmas.{IsSame}
use Rattle.rewrite_verify.proofs.code.first_other.Given as goal

-- the words so far are the wanted ones
abbrev pub invariant-loop-k : goal.invariant-loop-k
invariant-loop-k l = IsSame l.bytes l.wanted l.k
