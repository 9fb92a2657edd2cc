-- Helps the code alone: events of nodes and lists, as they are stored.
use Rattle.std.specs.Prelude.{◌≡◌, ◌⊎◌, ℕ, ◌+◌, true, List, [], ◌++◌, map, slice_index_or, length}
use Rattle.home_directory.specs.dsm_messages.declared.messages.Wire.{Wire}
use Rattle.lane_model.specs.node_model.Node.{can_execute}
use Rattle.lane_law.specs.dsm_protocol.Queue.{Queue}
use Rattle.lane_model.specs.Nodes.{LaneNode, LaneWork, opening_node, node_of, lane_of}
use Rattle.lane_model.specs.Turns.{word_turn}
use Rattle.lane_model.specs.Core.{LaneCore, LaneEvent, event_step, lowers_first, printed_at}
use Rattle.lane_machine.specs.Stored.{HasRoom}
use Rattle.lane_machine.specs.declared.node.SmpNode.{SmpNode}
use Rattle.lane_machine.specs.SmpNodes.{HoldsBeside, node_in}
use Rattle.smp_sim.specs.CoreParts.{AreAlike, AreNodes, HasStamps, core_with}

-- node i has room for one event
abbrev pub HasNodeRoom : List SmpNode → (i : ℕ) → Type 0
HasNodeRoom nodes i = (d : SmpNode) → HasRoom (slice_index_or nodes i d).shared

-- the first nodes, as at the start
pub record AreFirst (w : LaneWork) (many : ℕ) (nodes : List SmpNode) : Type 0 where
  pub count : length nodes ≡ many
  pub each : AreNodes w nodes
  pub opening : (i : ℕ) → slice_index_or (map (node_in w i) nodes) i (opening_node w i)
      ≡ opening_node w i

-- the nodes and lists have made the event, and its byte stands after the others
pub record HaveMade (w : LaneWork) (old_nodes new_nodes : List SmpNode)
    (old_lists new_lists : List Queue) (old_output new_output : List ℕ) (e : LaneEvent)
    : Type 0 where
  pub event : AreAlike w.work.layout.nodes (core_with w new_nodes new_lists)
      (event_step w (core_with w old_nodes old_lists) e)
  pub output : new_output ≡ old_output ++ printed_at w (core_with w old_nodes old_lists) e
  pub stamps : (most : ℕ) → HasStamps w.work.layout.nodes most (core_with w old_nodes old_lists)
      → HasStamps w.work.layout.nodes (most + 1) (core_with w new_nodes new_lists)

-- the next word of processor p sends nothing, and the processor may execute another after it
pub record IsSilent (w : LaneWork) (c : LaneCore) (p : ℕ) : Type 0 where
  pub sends : (word_turn w (c.nodes (node_of w p)) (lane_of w p)).sends ≡ []
  pub may : can_execute
      ((word_turn w (c.nodes (node_of w p)) (lane_of w p)).node.lanes (lane_of w p)).phase
      ≡ true

-- the first of these messages, where there is one, takes something of its block away
abbrev pub TakeAway : List Wire → Type 0
TakeAway wires = (wires ≡ []) ⊎ (lowers_first wires ≡ true)

-- the node takes none of these messages, whatever lane k does
abbrev pub IsShut : LaneWork → LaneNode → (k : ℕ) → List Wire → Type 0
IsShut w x k wires = (wires ≡ []) ⊎ ((lowers_first wires ≡ true) × HoldsBeside w x k)

-- nothing has changed but room
pub record HaveKept (w : LaneWork) (old_nodes new_nodes : List SmpNode)
    (old_lists new_lists : List Queue) (old_output new_output : List ℕ) : Type 0 where
  pub core : core_with w new_nodes new_lists ≡ core_with w old_nodes old_lists
  pub output : new_output ≡ old_output
