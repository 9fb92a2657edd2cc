use Rattle.std.proofs.Common.{sym, subst}
use Rattle.node_machine.specs.UndoLogs.{TakesNodeBack}
use Rattle.node_machine.specs.declared.node_state.NodeState.{NodeState as Stored}
use Rattle.node_machine.proofs.node.Node.take_back.Goals as goal

pub take_back-requires : goal.take_back-requires
take_back-requires c = record {
  back = (c.requires.back.0, subst (λ (f : Stored). TakesNodeBack c.args.undo_log.now f c.requires.back.0) (sym c.self.view_is) c.requires.back.1);
}
