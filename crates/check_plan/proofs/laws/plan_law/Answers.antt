use Rattle.check_plan.proofs.RunLemmas.{one_plan, admissible}
use Rattle.check_plan.proofs.laws.plan_law.Goals as goal

pub returns : goal.returns
returns c = record { one = one_plan; admissible = admissible }
