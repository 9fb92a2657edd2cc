use Rattle.std.proofs.Common.{refl}
use Rattle.node_words.specs.declared.exec_state.ExecState.{ExecState}
use Rattle.node_words.proofs.UndoLogLemmas.{undoable_mild}
use Rattle.node_words.proofs.exec_state.ExecState.link.Goals as goal

pub returns-clause-undoable : goal.returns-clause-undoable
returns-clause-undoable c =
    let b = c.args.self.now in
    let b' : ExecState = record b { lane = record b.lane { registers = c.set.new.self } } in
    undoable_mild b b' refl refl refl refl
