-- Helps the code alone: what takes a node's words back.
use Rattle.std.specs.Prelude.{◌≡◌}
use Rattle.node_words.specs.UndoLogs.{TakesBack}
use Rattle.node_machine.specs.declared.node_state.NodeState.{NodeState}
use Rattle.node_machine.specs.declared.undo_log.NodeUndoLog.{NodeUndoLog}
use Rattle.node_machine.specs.NodeState.{IsNode}

-- the undo log takes a node back to another
pub record TakesNodeBack (t : NodeUndoLog) (f first : NodeState) : Type 0 where
  pub words : TakesBack t.words.saved t.words.notes.items
      f.shared.body.value.lane f.shared.body.value.local
      first.shared.body.value.lane first.shared.body.value.local
  pub counts : f.shared.body.value.counts ≡ first.shared.body.value.counts
  pub at : t.at ≡ first.lane.at
  pub executed : t.executed ≡ first.lane.executed
  pub stamp : t.stamp ≡ first.shared.stamp
  pub phase : t.phase ≡ first.lane.phase
  pub image : f.lane.image.now ≡ first.lane.image.now
  pub budget : f.lane.budget ≡ first.lane.budget
  pub protocol : f.shared.protocol ≡ first.shared.protocol
  pub byes : f.shared.byes ≡ first.shared.byes
  pub journal : f.shared.journal.items ≡ first.shared.journal.items
  pub noted : f.shared.noted ≡ first.shared.noted
  pub output : f.shared.output.items ≡ first.shared.output.items
  pub is_node : IsNode first
