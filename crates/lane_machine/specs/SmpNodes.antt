-- Nodes of several processors, as they are stored, and the nodes that they stand for.
use Rattle.std.specs.Prelude.{◌≡◌, ◌≢◌, ℕ, ◌<◌, true, false, List, [], map, slice_index_or, length}
use Rattle.exec_map.specs.Contents.{program_of}
use Rattle.lane_model.specs.node_model.Node.{can_execute}
use Rattle.lane_model.specs.Nodes.{LaneWork, LaneNode, processor_of, first_part}
use Rattle.lane_model.specs.Core.{lane_lets}
use Rattle.lane_machine.specs.declared.node.SmpNode.{SmpNode}
use Rattle.lane_machine.specs.declared.stored.StoredLane.{StoredLane}
use Rattle.lane_machine.specs.declared.work.SmpWork.{SmpWork}
use Rattle.lane_machine.specs.Stored.{AllHeld, AllWaitFor, AreLanes, HaveParts, IsLaneOf, ended_in, part_of, shared_of}

-- what the processors run, and how many of them each node has
abbrev pub lane_work : SmpWork → LaneWork
lane_work w = record {
  work = record {
    program = program_of w.program.now;
    image = w.image.now;
    layout = w.layout.now;
    budget = w.budget;
  };
  lanes = w.lanes;
}

-- node i of these lanes and what they share; beyond the last lane it is as at the start
abbrev pub node_in : LaneWork → (i : ℕ) → SmpNode → LaneNode
node_in w i x = record {
  lanes = λ k. slice_index_or (map part_of x.lanes.items) k (first_part w (processor_of w i k));
  shared = shared_of x.shared;
}

-- the lanes of a node in order, and what they share, of which one that may execute a word waits for
-- no block
pub record IsNode (w : LaneWork) (x : SmpNode) : Type 0 where
  pub lanes : AreLanes w x.lanes.items x.shared
  pub waits : AllWaitFor x.lanes.items x.shared
  pub held : AllHeld x.lanes.items x.shared
  pub ended : (y : LaneNode) → HaveParts x.lanes.items y → x.shared.ended ≡ ended_in y w.lanes
  pub idle : (k : ℕ) (d : StoredLane) → k < w.lanes
      → can_execute (part_of (slice_index_or x.lanes.items k d)).phase ≡ true
      → (part_of (slice_index_or x.lanes.items k d)).awaits ≡ []

-- lane k may execute a word
abbrev pub CanExecute : SmpNode → (k : ℕ) → Type 0
CanExecute x k =
    (d : StoredLane) → can_execute (part_of (slice_index_or x.lanes.items k d)).phase ≡ true

-- the first lanes of node i, as at the start
pub record AreFirstLanes (w : LaneWork) (i many : ℕ) (ls : List StoredLane) : Type 0 where
  pub count : length ls ≡ many
  pub each : (k : ℕ) (d : StoredLane) → k < many → IsLaneOf w k (slice_index_or ls k d)
  pub parts : (k : ℕ) (d : StoredLane) → k < many
      → part_of (slice_index_or ls k d) ≡ first_part w (processor_of w i k)

-- a lane but k lets no message in that takes something of its block away
pub record HoldsBeside (w : LaneWork) (x : LaneNode) (k : ℕ) : Type 0 where
  pub lane : ℕ
  pub low : lane < w.lanes
  pub other : lane ≢ k
  pub holds : lane_lets w x lane ≡ false
