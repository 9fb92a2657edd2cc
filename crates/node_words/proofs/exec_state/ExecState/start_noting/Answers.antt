use Rattle.std.proofs.Common.{List, ap, sym, subst, ◌∙◌}
use Rattle.std.specs.Prelude.{Vec}
use Rattle.std.specs.declared.alloc.Global.{Global}
use Rattle.node_words.specs.declared.store_log.Note.{Note}
use Rattle.node_words.specs.UndoLogs.{TakesBack}
use Rattle.node_words.proofs.UndoLogLemmas.{taken_none}
use Rattle.node_words.proofs.exec_state.ExecState.start_noting.Goals as goal

pub returns-clause-back : goal.returns-clause-back
returns-clause-back c =
    let b = c.args.self.now in
    let saved = c.save-undo_log.result in
    let none = ap (λ (v : Vec Note Global). v.items) c.swap.ensures.x_after ∙ c.clear.ensures.items in
    subst (λ (ns : List Note). TakesBack saved ns b.lane b.local b.lane b.local) (sym none)
    (taken_none saved b.lane b.local c.save-undo_log.ensures)
