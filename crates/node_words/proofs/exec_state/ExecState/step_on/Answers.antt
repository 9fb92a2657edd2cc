use Rattle.node_words.proofs.UndoLogLemmas.{undoable_both}
use Rattle.node_words.proofs.exec_state.ExecState.step_on.Goals as goal

pub returns-in-None-clause-undoable : goal.returns-in-None-clause-undoable
returns-in-None-clause-undoable c =
    undoable_both c.args.self.now c.step_at.new.self c.silent_at.new.self c.step_at.ensures.undoable
    c.silent_at.ensures.undoable
