-- No list to the node has a message.
use Rattle.smp_sim.proofs.runs.is_quiet.Goals as goal

pub returns-clause-quiet : goal.returns-clause-quiet
returns-clause-quiet c = λ quiet none from low. c.has_mail.ensures.value.0 c.if-has_mail.false from low
