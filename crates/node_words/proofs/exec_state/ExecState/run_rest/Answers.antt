use Rattle.std.proofs.Common.{◌-◌}
use Rattle.node_words.proofs.exec_state.ExecState.run_rest.Goals as goal

pub returns-clause-goes : goal.returns-clause-goes
returns-clause-goes c = c.run_singly-last.ensures.goes (c.args.budget - c.args.going.left)
