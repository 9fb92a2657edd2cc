use Rattle.std.proofs.Common.{◌≡◌, List, length}
use Rattle.node_machine.specs.declared.node_state.NodeState.{NodeState}
use Rattle.dsm_core.specs.CoreSteps.{SameWorks}
use Rattle.dsm_core.specs.UndoLogs.{TakeBack, AreSameBelow, AreSameFrom}
use Rattle.dsm_core.proofs.undo_logs.take_back.Given as goal

abbrev pub invariant-loop-node : goal.invariant-loop-node
invariant-loop-node l = record {
  nodes : length l.nodes.items ≡ length l.initial.nodes.items;
  undo_logs : length l.undo_logs.items ≡ length l.initial.undo_logs.items;
  works : SameWorks l.initial.nodes.items l.nodes.items;
  done : (first : List NodeState) → TakeBack l.end l.initial.undo_logs.items l.initial.nodes.items first → AreSameBelow l.node first l.nodes.items;
  rest : AreSameFrom l.node l.initial.nodes.items l.nodes.items;
  left : AreSameFrom l.node l.initial.undo_logs.items l.undo_logs.items;
}
