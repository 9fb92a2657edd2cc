use Rattle.node_words.proofs.UndoLogLemmas.{undoable_both}
use Rattle.node_words.proofs.exec_state.ExecState.leave.Goals as goal

pub returns-clause-undoable : goal.returns-clause-undoable
returns-clause-undoable c =
    undoable_both c.args.self.now c.leave_one.new.self c.leave_one-2.new.self c.leave_one.ensures.undoable
    c.leave_one-2.ensures.undoable
