-- Helps the code alone: a lane whose registers and reservation are in use at its node.
use Rattle.std.specs.Prelude.{◌≡◌, ◌≢◌, ℕ, None, slice_index_or, slice_set}
use Rattle.node_machine.specs.node_words.declared.exec_state.ExecState.{ExecState}
use Rattle.lane_machine.specs.declared.lane_protocol.LaneProtocol.{LaneProtocol}
use Rattle.lane_machine.specs.declared.stored.StoredLane.{StoredLane}
use Rattle.lane_machine.specs.declared.stored.StoredShared.{StoredShared}
use Rattle.lane_machine.specs.Places.{reserved_in}

-- what words see, with the registers and the reservation that are in use at another
abbrev pub with_use : ExecState → (other : ExecState) → ExecState
with_use b other = record b {
  lane = other.lane;
  local = record b.local { reservation = other.local.reservation };
}

-- A lane l is in use at a node that shares f: once its registers and its reservation are put back,
-- the lane is m, and the node shares g. What is in use there then belongs to no lane.
pub record ArePutBack (l : StoredLane) (f : StoredShared) (m : StoredLane) (g : StoredShared)
    : Type 0 where
  pub place : LaneProtocol
  pub is_place : place ≡ slice_index_or f.places.items l.number place
  pub lane : m ≡ record l { lane = f.state.body.value.lane }
  pub body : g.state.body.value ≡ with_use f.state.body.value g.state.body.value
  pub places : g.places.items ≡ slice_set f.places.items l.number
      (record place { reservation = f.state.body.value.local.reservation })
  pub rest : g ≡ record f { state = record f.state { body = g.state.body }; places = g.places }

-- no other lane has reserved an address
abbrev pub IsAlone : StoredLane → StoredShared → Type 0
IsAlone l f = (k : ℕ) → k ≢ l.number → reserved_in f.places.items k ≡ None
