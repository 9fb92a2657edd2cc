use Rattle.exec_map.proofs.Judging.{acceptable_by, no_rule}
use Rattle.exec_map.proofs.refusal_law.Goals as goal

pub returns-clause-no_rule : goal.returns-clause-no_rule
returns-clause-no_rule c e r acceptable fits = no_rule e acceptable r fits

pub returns-clause-acceptable : goal.returns-clause-acceptable
returns-clause-acceptable c e never = acceptable_by e never
