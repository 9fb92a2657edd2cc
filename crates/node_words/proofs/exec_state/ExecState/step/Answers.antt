use Rattle.node_words.proofs.exec_state.ExecState.step.Goals as goal

pub returns-then-one-clause-steps : goal.returns-then-one-clause-steps
returns-then-one-clause-steps c = c.if-one.ensures.tried.steps

pub returns-else-one-clause-steps : goal.returns-else-one-clause-steps
returns-else-one-clause-steps c = (c.if-one.ensures.tried.lane, c.if-one.ensures.tried.local)
