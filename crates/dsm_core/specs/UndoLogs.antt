-- Helps the code alone: words of every node, as they are stored, and what takes them back.
use Rattle.std.specs.Prelude.{◌≡◌, ℕ, ◌<◌, ◌≤◌, true, List, slice_index_or}
use Rattle.run_order.specs.node_model.Node.{can_execute}
use Rattle.node_machine.specs.declared.node_state.NodeState.{NodeState}
use Rattle.node_machine.specs.declared.undo_log.NodeUndoLog.{NodeUndoLog}
use Rattle.node_machine.specs.NodeState.{node_of, work_of as work_at}
use Rattle.node_machine.specs.Runs.{GoesOnBy}
use Rattle.node_machine.specs.UndoLogs.{TakesNodeBack}

-- a node has executed so many words, and may still execute one if it might
pub record HasGone (words : ℕ) (old new : NodeState) : Type 0 where
  pub goes_on : GoesOnBy (work_at old) words (node_of old) (node_of new)
  pub may : can_execute (node_of old).phase ≡ true → can_execute (node_of new).phase ≡ true

-- each node below k has executed so many words, by number
abbrev pub HaveGone : (words : ℕ → ℕ) → ℕ → (old new : List NodeState) → Type 0
HaveGone words k old new = (i : ℕ) (d : NodeState) → i < k
    → HasGone (words i) (slice_index_or old i d) (slice_index_or new i d)

-- the undo logs take the nodes below k back to others
abbrev pub TakeBack : ℕ → List NodeUndoLog → (nodes first : List NodeState) → Type 0
TakeBack k undo_logs nodes first = (i : ℕ) (d : NodeState) (t : NodeUndoLog) → i < k
    → TakesNodeBack (slice_index_or undo_logs i t) (slice_index_or nodes i d)
    (slice_index_or first i d)

-- the nodes below k stand for the same as others
abbrev pub AreSameBelow : ℕ → (first nodes : List NodeState) → Type 0
AreSameBelow k first nodes = (i : ℕ) (d : NodeState) → i < k
    → node_of (slice_index_or nodes i d) ≡ node_of (slice_index_or first i d)

-- the elements from k on are the same
abbrev pub AreSameFrom : {A : Type 0} → ℕ → (old new : List A) → Type 0
AreSameFrom k old new = (i : ℕ) (d : _) → k ≤ i → slice_index_or new i d ≡ slice_index_or old i d
