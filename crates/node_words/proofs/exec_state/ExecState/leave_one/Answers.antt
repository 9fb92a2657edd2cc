use Rattle.std.proofs.Common.{refl}
use Rattle.node_words.specs.declared.exec_state.ExecState.{ExecState}
use Rattle.node_words.proofs.UndoLogLemmas.{undoable_mild, undoable_same}
use Rattle.node_words.proofs.exec_state.ExecState.leave_one.Goals as goal

pub returns-then-spilled-clause-undoable : goal.returns-then-spilled-clause-undoable
returns-then-spilled-clause-undoable c =
    let b = c.args.self.now in
    undoable_same b

pub returns-else-spilled-clause-undoable : goal.returns-else-spilled-clause-undoable
returns-else-spilled-clause-undoable c =
    let b = c.args.self.now in
    let b' : ExecState = record b { lane = record b.lane { registers = c.set.new.self } } in
    undoable_mild b b' refl refl refl refl
