use Rattle.check_plan.proofs.MemberLemmas.{IsSearch}
use Rattle.check_plan.proofs.scratches.member.Given as goal

abbrev pub invariant-loop-number : goal.invariant-loop-number
invariant-loop-number l = IsSearch l.set l.k l.number l.left
