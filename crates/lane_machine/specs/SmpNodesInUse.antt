-- Helps the code alone: nodes of several processors of which a lane is in use.
use Rattle.std.specs.Prelude.{◌≡◌, ◌≢◌, ℕ, ◌+◌, ◌^◌, ◌<◌, Bool, true, false, [], length, slice_index_or, slice_set, Option, None, Some}
use Rattle.lane_model.specs.Nodes.{LaneWork}
use Rattle.lane_model.specs.Turns.{word_turn}
use Rattle.lane_machine.specs.declared.node.SmpNode.{SmpNode}
use Rattle.lane_machine.specs.declared.stored.StoredLane.{StoredLane}
use Rattle.lane_machine.specs.InUse.{ArePutBack}
use Rattle.lane_machine.specs.Places.{reserved_in}
use Rattle.lane_machine.specs.SmpNodes.{CanExecute, IsNode, node_in}
use Rattle.lane_machine.specs.Stored.{IsSameShared, lane_turn}

-- lane k of node x is in use: the node is y once it is put back
pub record IsPutBack (x : SmpNode) (k : ℕ) (y : SmpNode) : Type 0 where
  pub before : StoredLane
  pub after : StoredLane
  pub is_before : before ≡ slice_index_or x.lanes.items k before
  pub put_back : ArePutBack before x.shared after y.shared
  pub lanes : y.lanes.items ≡ slice_set x.lanes.items k after

-- lane k of node x is in use, and the node is y once it is put back; no other has reserved an
-- address
pub record IsInUse (x : SmpNode) (k : ℕ) (y : SmpNode) : Type 0 where
  pub low : k < length x.lanes.items
  pub put_back : IsPutBack x k y
  pub alone : (j : ℕ) → j ≢ k → reserved_in x.shared.places.items j ≡ None

-- the node is y once the lane in use is put back, where one is
abbrev pub RestsAs : SmpNode → (used : Option ℕ) → SmpNode → Type 0
RestsAs x None y = y ≡ x
RestsAs x (Some k) y = IsInUse x k y

-- both nodes have the same lanes, and what these share stands for the same
pub record IsSameNode (x y : SmpNode) : Type 0 where
  pub lanes : y.lanes.items ≡ x.lanes.items
  pub shared : IsSameShared x.shared y.shared

-- lane k of a node may execute a word, once the lane in use is put back
pub record MayTurn (x : SmpNode) (used : Option ℕ) (k : ℕ) : Type 0 where
  pub work : LaneWork
  pub rest : SmpNode
  pub rests : RestsAs x used rest
  pub is_node : IsNode work rest
  pub low : k < work.lanes
  pub may : CanExecute rest k
  pub stamp : rest.shared.state.stamp < 2 ^ 56

-- lane k of a node y has executed a silent word, where it is done: else the node stands for the same
pub record HasTurned (y : SmpNode) (k : ℕ) (done : Bool) (x : SmpNode) (used : Option ℕ)
    : Type 0 where
  pub rest : SmpNode
  pub rests : RestsAs x used rest
  pub node : (w : LaneWork) → IsNode w y → IsNode w rest
  pub turn : done ≡ true → (w : LaneWork) (i : ℕ) → IsNode w y
      → word_turn w (node_in w i y) k ≡ lane_turn (node_in w i rest) [] None
  pub may : done ≡ true → CanExecute rest k
  pub stamps : done ≡ true → rest.shared.state.stamp ≡ y.shared.state.stamp + 1
  pub same : done ≡ false → (w : LaneWork) (i : ℕ) → node_in w i rest ≡ node_in w i y
