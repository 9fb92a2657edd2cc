-- Runs of nodes of several processors whose events follow an order.
use Rattle.std.specs.Prelude.{◌≡◌, ℕ, Bool, ◌&&◌, List, [], ◌∷◌, ◌++◌, Option, Some, length, map, filter, slice_get}
use Rattle.std.specs.List.{flat_map, range_with_len}
use Rattle.random_order.specs.Orders.{following, choice}
use Rattle.lane_model.specs.node_model.Core.{may_execute}
use Rattle.lane_model.specs.node_model.Outcome.{Outcome}
use Rattle.lane_model.specs.Nodes.{LaneWork, processors, node_of, lane_of}
use Rattle.lane_model.specs.Core.{LaneCore, LaneEvent, Exec, Take, IsLaneRun, standing_of, may_take_first, opening_core, event_step, after}
use Rattle.lane_model.specs.Outcome.{IsLaneOutcomeOf}
use Rattle.lane_law.specs.Law.{AreAllOver}
use Rattle.shared_sim.specs.ByOrder.{has_wire}

-- the takes of node i, by sender
abbrev pub takes_at : (n i : ℕ) → List LaneEvent
takes_at n i = map (λ j. Take i j) (range_with_len 0 n)

-- the events that the processors and their nodes may ever make: each processor's word, and then
-- each node's takes
abbrev pub all_events : LaneWork → List LaneEvent
all_events w =
    map (λ p. Exec p) (range_with_len 0 (processors w))
    ++ flat_map (takes_at w.work.layout.nodes) (range_with_len 0 w.work.layout.nodes)

-- an event of processors, nodes and lists that are there is allowed
abbrev pub is_allowed : LaneWork → LaneCore → LaneEvent → Bool
is_allowed w c (Exec p) = may_execute (standing_of w (c.nodes (node_of w p)) (lane_of w p))
is_allowed w c (Take i j) =
    has_wire (c.list j i) && may_take_first w (c.nodes i) (c.list j i)

-- the events that are allowed, in that order
abbrev pub choices : LaneWork → LaneCore → List LaneEvent
choices w c = filter (is_allowed w c) (all_events w)

-- the one that a number of the order picks
abbrev pub pick_among : List LaneEvent → ℕ → Option LaneEvent
pick_among events number = slice_get events (choice (length events) number)

-- the order's next number picks each event among those that are allowed, until there are none. The
-- order goes on at every turn, also where one event is left
abbrev pub FollowsOrder : LaneWork → ℕ → LaneCore → List LaneEvent → Type 0
FollowsOrder w number c [] = choices w c ≡ []
FollowsOrder w number c (e ∷ es) =
    (pick_among (choices w c) (following number) ≡ Some e)
    × FollowsOrder w (following number) (event_step w c e) es

-- the run of an order: from the start it picks these events, until every node is over
pub record IsLaneRunByOrder (w : LaneWork) (number : ℕ) (events : List LaneEvent) : Type 0 where
  pub ordered : FollowsOrder w number (opening_core w) events
  pub is_run : IsLaneRun w (opening_core w) events
  pub over : AreAllOver w (after w (opening_core w) events)

-- the outcome of that run
pub record IsLaneOutcomeByOrder (w : LaneWork) (number : ℕ) (o : Outcome) : Type 0 where
  pub events : List LaneEvent
  pub run : IsLaneRunByOrder w number events
  pub outcome : IsLaneOutcomeOf w events o
