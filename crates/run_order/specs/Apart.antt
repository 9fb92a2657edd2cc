-- Nodes that make events apart, each by itself, and the lists between them: what is known where no
-- order in time is.
use Rattle.std.specs.Prelude.{◌≡◌, ℕ, ◌<◌, ◌==◌, true, if◌then◌else◌, List, [], ◌∷◌, ◌++◌}
use Rattle.node_model.specs.dsm_messages.declared.messages.Wire.{Wire}
use Rattle.node_model.specs.Node.{Work, Node, standing_of}
use Rattle.node_model.specs.Turns.{Turn, word_turn, take_turn}
use Rattle.node_model.specs.Core.{Core, may_execute, may_take, wires_to}

-- what a node does in an event: it executes a word, or takes a message from a node
pub data LocalEvent : Type 0 where
  Executes : LocalEvent
  Takes : (from : ℕ) (wire : Wire) → LocalEvent

abbrev pub turn_of : Work → Node → LocalEvent → Turn
turn_of work n Executes = word_turn work n
turn_of work n (Takes j wire) = take_turn work n j wire

-- the node may do so where it stands
abbrev pub MayDo : Work → Node → LocalEvent → Type 0
MayDo work n Executes = may_execute (standing_of work n) ≡ true
MayDo work n (Takes j wire) =
    (j < work.layout.nodes) × (may_take (standing_of work n) ≡ true)

-- these events, each allowed where the node stands, lead from one node to another
abbrev pub LeadsBy : Work → Node → List LocalEvent → Node → Type 0
LeadsBy work n [] m = n ≡ m
LeadsBy work n (d ∷ ds) m = MayDo work n d × LeadsBy work (turn_of work n d).node ds m

-- what they take from node j, in order
abbrev pub taken_from : (j : ℕ) → List LocalEvent → List Wire
taken_from j [] = []
taken_from j (Executes ∷ ds) = taken_from j ds
taken_from j (Takes i wire ∷ ds) =
    if i == j then wire ∷ taken_from j ds else taken_from j ds

-- what they send to node k, in order
abbrev pub sent_to : Work → (k : ℕ) → Node → List LocalEvent → List Wire
sent_to work k n [] = []
sent_to work k n (d ∷ ds) =
    wires_to (turn_of work n d).node.stamp k (turn_of work n d).sends
    ++ sent_to work k (turn_of work n d).node ds

-- The nodes below n have made these events each, and of each list what was taken and then what is
-- there is what was there and then what was sent.
pub record HaveDone (work : Work) (c d : Core) (history : ℕ → List LocalEvent) : Type 0 where
  pub nodes : (i : ℕ) → i < work.layout.nodes → LeadsBy work (c.nodes i) (history i) (d.nodes i)
  pub lists : (j k : ℕ) → j < work.layout.nodes → k < work.layout.nodes
      → taken_from j (history k) ++ d.list j k
      ≡ c.list j k ++ sent_to work k (c.nodes j) (history j)
