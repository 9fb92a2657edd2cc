-- Core runs whose events follow an order.
use Rattle.std.specs.Prelude.{◌≡◌, ℕ, Bool, true, false, ◌&&◌, List, [], ◌∷◌, Option, Some, length, map, filter, slice_get}
use Rattle.std.specs.List.{flat_map, range_with_len}
use Rattle.random_order.specs.Orders.{following, choice}
use Rattle.dsm_core.specs.dsm_messages.declared.messages.Wire.{Wire}
use Rattle.dsm_core.specs.node_model.Node.{Work, standing_of}
use Rattle.dsm_core.specs.node_model.Core.{Core, Event, Exec, Take, may_execute, may_take, opening_core, event_step, after, IsOver}
use Rattle.dsm_core.specs.node_model.Outcome.{Outcome, IsOutcomeOf}
use Rattle.dsm_core.specs.run_order.OwnRun.{Stamped, StandsForOwnRun, run_of}

-- the events that n nodes may ever make, node by node: its word, and then its takes by sender
abbrev pub events_at : (n i : ℕ) → List Event
events_at n i = Exec i ∷ map (λ j. Take i j) (range_with_len 0 n)

abbrev pub all_events : ℕ → List Event
all_events n = flat_map (events_at n) (range_with_len 0 n)

abbrev pub has_wire : List Wire → Bool
has_wire [] = false
has_wire (wire ∷ rest) = true

-- an event of nodes and lists that are there is allowed
abbrev pub is_allowed : Work → Core → Event → Bool
is_allowed work c (Exec i) = may_execute (standing_of work (c.nodes i))
is_allowed work c (Take i j) =
    may_take (standing_of work (c.nodes i)) && has_wire (c.list j i)

-- the events that are allowed, in that order
abbrev pub choices : Work → Core → List Event
choices work c = filter (is_allowed work c) (all_events work.layout.nodes)

-- the one that a number of the order picks
abbrev pub pick_among : List Event → ℕ → Option Event
pick_among events number = slice_get events (choice (length events) number)

-- the order's next number picks each event among those that are allowed, until there are none. The
-- order goes on at every turn, also where one event is left
abbrev pub FollowsOrder : Work → ℕ → Core → List Event → Type 0
FollowsOrder work number c [] = choices work c ≡ []
FollowsOrder work number c (e ∷ es) =
    (pick_among (choices work c) (following number) ≡ Some e)
    × FollowsOrder work (following number) (event_step work c e) es

-- The outcome of the core run of an order: the nodes make its events until each is over, and the
-- core that they reach stands for its own run, whose outcome this is.
pub record IsOutcomeByOrder (work : Work) (number : ℕ) (o : Outcome) : Type 0 where
  pub events : List Event
  pub ordered : FollowsOrder work number (opening_core work) events
  pub over : IsOver work (after work (opening_core work) events)
  pub own : List Stamped
  pub stands : StandsForOwnRun work (after work (opening_core work) events) own
  pub outcome : IsOutcomeOf work (run_of own) o
