use Rattle.templates.specs.Code.{code_of}
use Rattle.rewrite_verify.proofs.PlanLemmas.{IsSoFar}
use Rattle.rewrite_verify.proofs.plan.read_plan.Given as goal

-- the entries so far are good
abbrev pub invariant-loop-k : goal.invariant-loop-k
invariant-loop-k l = IsSoFar (code_of l.live) l.places l.bytes l.k l.free l.plan
