use Rattle.templates.specs.Code.{code_of}
use Rattle.check_plan.proofs.PlanLemmas.{IsPlanned}
use Rattle.check_plan.proofs.planning.plan_of_places.Given as goal

abbrev pub invariant-loop-address : goal.invariant-loop-address
invariant-loop-address l = IsPlanned (code_of l.live) l.places l.address-index l.plan
