use Rattle.node_words.proofs.exec_state.ExecState.call.Goals as goal

pub returns-in-Returns-clause-does : goal.returns-in-Returns-clause-does
returns-in-Returns-clause-does c at = rw (← c.in-Returns.ensures.value) (c.return_with.ensures.does at)

pub returns-in-Puts-clause-does : goal.returns-in-Puts-clause-does
returns-in-Puts-clause-does c at = rw (← c.in-Puts.ensures.value) (c.put.ensures.does at)
