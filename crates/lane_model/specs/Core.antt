-- A core of nodes of several processors, and the lists of messages between the nodes.
use Rattle.std.specs.Prelude.{◌≡◌, ◌≢◌, ℕ, ◌<◌, Bool, true, false, if◌then◌else◌, ◌==◌, ◌&&◌, ◌||◌, not, List, [], ◌∷◌, ◌++◌}
use Rattle.std.specs.Option.{option_to_list}
use Rattle.block_layout.specs.Update.{changed}
use Rattle.node_model.specs.dsm_messages.declared.messages.Wire.{Wire}
use Rattle.node_model.specs.miss_handlers.Rows.{takes_away}
use Rattle.node_model.specs.declared.Standing.{Standing}
use Rattle.node_model.specs.declared.Standing.TheVariants as standing
use Rattle.node_model.specs.Node.{Phase, Running, Resumed, Waiting, Ended, is_at_poll, has_all_byes, word_outcome}
use Rattle.node_model.specs.Core.{may_execute, may_take, wires_to}
use Rattle.lane_model.specs.Nodes.{LaneWork, processors, node_of, lane_of, LaneNode, as_node, opening_node, all_lanes, some_lane}
use Rattle.lane_model.specs.Turns.{LaneTurn, have_ended, word_turn, take_turn}

-- a processor executes a word, or a node takes the first message of the list from another
pub data LaneEvent : Type 0 where
  Exec : (p : ℕ) → LaneEvent
  Take : (i j : ℕ) → LaneEvent

-- the nodes by number, and the lists by sender and receiver
pub record LaneCore : Type 0 where
  pub nodes : ℕ → LaneNode
  pub list : ℕ → ℕ → List Wire

abbrev pub opening_core : LaneWork → LaneCore
opening_core w = record { nodes = opening_node w; list = λ j i. [] }

-- 1. What is allowed

-- what a lane may do next, as a node of one processor may; it is never over. One that has just got
-- what it waited for executes a word before messages are taken
abbrev pub standing_in : LaneWork → LaneNode → (k : ℕ) → Phase → Standing
standing_in w x k Running =
    if is_at_poll w.work (as_node x k) then standing.AtPoll else standing.Running
standing_in w x k Resumed = standing.Running
standing_in w x k (Waiting resume) = standing.Waiting
standing_in w x k (Ended end) = standing.Ended

abbrev pub standing_of : LaneWork → LaneNode → (k : ℕ) → Standing
standing_of w x k = standing_in w x k (x.lanes k).phase

-- the first of these messages takes something of its block away from the node
abbrev pub lowers_first : List Wire → Bool
lowers_first [] = false
lowers_first (wire ∷ wires) = takes_away wire.message

abbrev pub lane_lets : LaneWork → LaneNode → (k : ℕ) → Bool
lane_lets w x k = may_take (standing_of w x k)

-- the node may take the first of these messages: some lane lets it, and where something is taken
-- away each lane does
abbrev pub may_take_first : LaneWork → LaneNode → List Wire → Bool
may_take_first w x wires =
    some_lane (lane_lets w x) w.lanes
    && (not (lowers_first wires) || all_lanes (lane_lets w x) w.lanes)

-- the event is allowed
abbrev pub May : LaneWork → LaneCore → LaneEvent → Type 0
May w c (Exec p) =
    (p < processors w)
    × (may_execute (standing_of w (c.nodes (node_of w p)) (lane_of w p)) ≡ true)
May w c (Take i j) =
    (i < w.work.layout.nodes) × (j < w.work.layout.nodes) × (c.list j i ≢ [])
    × (may_take_first w (c.nodes i) (c.list j i) ≡ true)

-- 2. Events

-- node i has made this turn: what it sent stands at the end of its lists
abbrev pub with_turn : LaneCore → (i : ℕ) → LaneTurn → LaneCore
with_turn c i t = record {
  nodes = changed c.nodes i t.node;
  list = λ j k.
      if j == i then c.list j k ++ wires_to t.node.shared.stamp k t.sends else c.list j k;
}

-- the list from j to i is another
abbrev pub with_list : LaneCore → (j i : ℕ) → List Wire → LaneCore
with_list c j i wires =
    record c { list = λ x y. if x == j && y == i then wires else c.list x y }

-- node i takes the first of these messages from node j
abbrev pub take_first : LaneWork → LaneCore → (i j : ℕ) → List Wire → LaneCore
take_first w c i j [] = c
take_first w c i j (wire ∷ rest) =
    with_turn (with_list c j i rest) i (take_turn w (c.nodes i) j wire)

-- the core after an event
abbrev pub event_step : LaneWork → LaneCore → LaneEvent → LaneCore
event_step w c (Exec p) =
    with_turn c (node_of w p) (word_turn w (c.nodes (node_of w p)) (lane_of w p))
event_step w c (Take i j) = take_first w c i j (c.list j i)

-- the events are a core run from this core on: each is allowed where it comes
abbrev pub IsLaneRun : LaneWork → LaneCore → List LaneEvent → Type 0
IsLaneRun w c [] = Unit {0}
IsLaneRun w c (e ∷ es) = May w c e × IsLaneRun w (event_step w c e) es

-- the core after the events
abbrev pub after : LaneWork → LaneCore → List LaneEvent → LaneCore
after w c [] = c
after w c (e ∷ es) = after w (event_step w c e) es

-- 3. What a run gives

-- a node is over once its lanes have all ended, and it has taken a Bye of every node
abbrev pub is_over : LaneWork → LaneNode → Bool
is_over w x = have_ended w x && has_all_byes w.work (as_node x 0)

-- the byte that an event prints
abbrev pub printed_at : LaneWork → LaneCore → LaneEvent → List ℕ
printed_at w c (Exec p) =
    option_to_list
    (word_outcome w.work (as_node (c.nodes (node_of w p)) (lane_of w p))).printed
printed_at w c (Take i j) = []

-- the bytes printed, in the order of the events
abbrev pub printed_by : LaneWork → LaneCore → List LaneEvent → List ℕ
printed_by w c [] = []
printed_by w c (e ∷ es) = printed_at w c e ++ printed_by w (event_step w c e) es
