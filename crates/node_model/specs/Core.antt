-- A core: n nodes that run rewritten code, and the lists of messages between them.
use Rattle.std.specs.Prelude.{◌≡◌, ◌≢◌, ℕ, ◌<◌, Bool, true, false, ◌==◌, ◌&&◌, if◌then◌else◌, List, [], ◌∷◌, ◌++◌}
use Rattle.std.specs.Option.{option_to_list}
use Rattle.block_layout.specs.Update.{changed}
use Rattle.miss_handlers.specs.dsm_messages.declared.messages.Post.{Post}
use Rattle.miss_handlers.specs.dsm_messages.declared.messages.Wire.{Wire}
use Rattle.node_model.specs.declared.Standing.{Standing}
use Rattle.node_model.specs.declared.Standing.TheVariants as standing
use Rattle.node_model.specs.Node.{Work, Node, opening_node, standing_of, word_outcome}
use Rattle.node_model.specs.Turns.{Turn, word_turn, take_turn}

-- a node executes a word, or takes the first message of the list from another
pub data Event : Type 0 where
  Exec : (i : ℕ) → Event
  Take : (i j : ℕ) → Event

-- the nodes by number, and the lists by sender and receiver
pub record Core : Type 0 where
  pub nodes : ℕ → Node
  pub list : ℕ → ℕ → List Wire

abbrev pub opening_core : Work → Core
opening_core work = record { nodes = opening_node work; list = λ j i. [] }

abbrev pub may_execute : Standing → Bool
may_execute standing.Running = true
may_execute standing.AtPoll = true
may_execute s = false

abbrev pub may_take : Standing → Bool
may_take standing.AtPoll = true
may_take standing.Waiting = true
may_take standing.Ended = true
may_take s = false

-- the event is allowed
abbrev pub May : Work → Core → Event → Type 0
May work c (Exec i) =
    (i < work.layout.nodes) × (may_execute (standing_of work (c.nodes i)) ≡ true)
May work c (Take i j) =
    (i < work.layout.nodes) × (j < work.layout.nodes)
    × (may_take (standing_of work (c.nodes i)) ≡ true) × (c.list j i ≢ [])

-- the messages for node k, with the stamp of the event that sent them
abbrev pub wires_to : (stamp k : ℕ) → List Post → List Wire
wires_to stamp k [] = []
wires_to stamp k (p ∷ ps) =
    if p.to == k then record { stamp = stamp; message = p.message } ∷ wires_to stamp k ps
    else wires_to stamp k ps

-- node i has made this turn: what it sent stands at the end of its lists
abbrev pub with_turn : Core → ℕ → Turn → Core
with_turn c i t = record {
  nodes = changed c.nodes i t.node;
  list = λ j k.
      if j == i then c.list j k ++ wires_to t.node.stamp k t.sends else c.list j k;
}

-- the list from j to i is another
abbrev pub with_list : Core → (j i : ℕ) → List Wire → Core
with_list c j i wires =
    record c { list = λ x y. if x == j && y == i then wires else c.list x y }

-- node i takes the first of these messages from node j
abbrev pub take_first : Work → Core → (i j : ℕ) → List Wire → Core
take_first work c i j [] = c
take_first work c i j (wire ∷ rest) =
    with_turn (with_list c j i rest) i (take_turn work (c.nodes i) j wire)

-- the core after an event
abbrev pub event_step : Work → Core → Event → Core
event_step work c (Exec i) = with_turn c i (word_turn work (c.nodes i))
event_step work c (Take i j) = take_first work c i j (c.list j i)

-- the events are a core run from this core on: each is allowed where it comes
abbrev pub IsCoreRun : Work → Core → List Event → Type 0
IsCoreRun work c [] = Unit {0}
IsCoreRun work c (e ∷ es) = May work c e × IsCoreRun work (event_step work c e) es

-- the core after the events
abbrev pub after : Work → Core → List Event → Core
after work c [] = c
after work c (e ∷ es) = after work (event_step work c e) es

-- two cores have the same nodes below n, and the same lists between these
pub record AreAlike (n : ℕ) (c d : Core) : Type 0 where
  pub nodes : (i : ℕ) → i < n → c.nodes i ≡ d.nodes i
  pub lists : (j i : ℕ) → j < n → i < n → c.list j i ≡ d.list j i

-- each node has ended, and has been told by all nodes that they have
abbrev pub IsOver : Work → Core → Type 0
IsOver work c =
    (i : ℕ) → i < work.layout.nodes → standing_of work (c.nodes i) ≡ standing.Over

-- the byte that an event prints
abbrev pub printed_at : Work → Core → Event → List ℕ
printed_at work c (Exec i) = option_to_list (word_outcome work (c.nodes i)).printed
printed_at work c (Take i j) = []

-- the bytes printed, in the order of the events
abbrev pub printed_by : Work → Core → List Event → List ℕ
printed_by work c [] = []
printed_by work c (e ∷ es) = printed_at work c e ++ printed_by work (event_step work c e) es
