-- Runs of nodes over lossy links: an order picks the nodes' events, and a loss what the network
-- does.
use Rattle.std.specs.Prelude.{◌≡◌, ℕ, suc, ◌+◌, ◌*◌, ◌%◌, ◌<◌, ◌==◌, ◌&&◌, ◌⊎◌, Bool, if◌then◌else◌, List, [], ◌∷◌, Some, is_some, filter}
use Rattle.block_layout.specs.Update.{changed}
use Rattle.random_order.specs.Orders.{following}
use Rattle.dsm_messages.specs.declared.messages.Wire.{Wire}
use Rattle.lossy_link.specs.Receiver.{Receiving, Delivers, held}
use Rattle.node_model.specs.declared.Standing.TheVariants.{Over}
use Rattle.node_model.specs.Node.{Work, Node, opening_node, standing_of}
use Rattle.node_model.specs.Turns as turns
use Rattle.node_model.specs.Turns.{word_turn, take_turn}
use Rattle.node_model.specs.Core.{Event, Exec, Take, may_execute, may_take, wires_to, opening_core, after, IsCoreRun}
use Rattle.node_model.specs.Outcome.{Outcome, IsOutcomeOf}
use Rattle.dsm_core.specs.run_order.OwnRun.{Stamped, StandsForOwnRun, run_of}
use Rattle.shared_sim.specs.ByOrder.{all_events, pick_among}
use Rattle.lossy_sim.specs.Links.{LossyLink, HasNetworkTurn, new_link, with_offered}
use Rattle.lossy_sim.specs.UnderWay.{StandFor}

-- the nodes by number, the links by sender and receiver, and the numbers of the order and the loss
pub record State : Type 0 where
  pub nodes : ℕ → Node
  pub links : (j i : ℕ) → LossyLink
  pub order : ℕ
  pub losses : ℕ

abbrev pub opening_state : Work → (order loss : ℕ) → State
opening_state work order loss = record {
  nodes = opening_node work;
  links = λ j i. new_link;
  order = order;
  losses = loss;
}

-- an ordinary event of the nodes, or a turn of the network
pub data Turn : Type 0 where
  Ordinary : Event → Turn
  Network : Turn

-- the events among the turns
abbrev pub ordinary : List Turn → List Event
ordinary [] = []
ordinary (Ordinary e ∷ ts) = e ∷ ordinary ts
ordinary (Network ∷ ts) = ordinary ts

-- the next item of a receiver is held
abbrev pub has_next : Receiving Wire → Bool
has_next r = is_some (held r r.next)

-- an event is allowed: a word as ever, and a take where the link's next item is held
abbrev pub is_allowed : Work → State → Event → Bool
is_allowed work s (Exec i) = may_execute (standing_of work (s.nodes i))
is_allowed work s (Take i j) =
    may_take (standing_of work (s.nodes i)) && has_next (s.links j i).receiver

-- those that are allowed, node by node: its word, and then its takes by sender
abbrev pub choices : Work → State → List Event
choices work s = filter (is_allowed work s) (all_events work.layout.nodes)

abbrev pub AreAllOver : Work → State → Type 0
AreAllOver work s = (i : ℕ) → i < work.layout.nodes → standing_of work (s.nodes i) ≡ Over

-- the turn of this number, counted from 1, is the network's: each fourth, and where no event is
-- allowed
abbrev pub IsForNetwork : Work → (number : ℕ) → State → Type 0
IsForNetwork work number s = (number % 4 ≡ 0) ⊎ (choices work s ≡ [])

-- node i of n has made a turn: what it sent is offered on its links
pub record HasMade (n i : ℕ) (t : turns.Turn) (s last : State) : Type 0 where
  pub nodes : (k : ℕ) → k < n → last.nodes k ≡ changed s.nodes i t.node k
  pub links : (j k : ℕ) → j < n → k < n → last.links j k ≡
      (if j == i then with_offered (s.links j k) (wires_to t.node.stamp k t.sends)
      else s.links j k)

-- the link from j to i has another receiver
abbrev pub with_receiver : State → (j i : ℕ) → Receiving Wire → State
with_receiver s j i r = record s {
  links = λ x y.
      if x == j && y == i then record (s.links x y) { receiver = r } else s.links x y;
}

-- the event leads from a state to another: a word is executed, or the link delivers a message and
-- the node takes it
abbrev pub HasEvent : Work → Event → State → State → Type 0
HasEvent work (Exec i) s last =
    HasMade work.layout.nodes i (word_turn work (s.nodes i)) s last
HasEvent work (Take i j) s last = (wire : Wire) × (r : Receiving Wire)
    × Delivers (s.links j i).receiver wire r
    × HasMade work.layout.nodes i (take_turn work (s.nodes i) j wire) (with_receiver s j i r) last

-- each link of n nodes has its network turn, by sender and then receiver, with the draws that
-- follow those of the link before it
pub record HaveNetworkTurns (n : ℕ) (s last : State) : Type 0 where
  pub numbers : ℕ → ℕ
  pub first : numbers 0 ≡ s.losses
  pub turns : (j i : ℕ) → j < n → i < n → HasNetworkTurn (numbers (j * n + i)) (s.links j i)
      (numbers (suc (j * n + i))) (last.links j i)
  pub losses : last.losses ≡ numbers (n * n)
  pub nodes : (i : ℕ) → i < n → last.nodes i ≡ s.nodes i
  pub order : last.order ≡ s.order

-- the turn of this number is the one that the rule gives, and leads from a state to another
abbrev pub IsTurn : Work → (number : ℕ) → Turn → State → State → Type 0
IsTurn work number (Ordinary e) s last = (IsForNetwork work number s → ⊥)
    × (pick_among (choices work s) (following s.order) ≡ Some e) × HasEvent work e s last
    × (last.order ≡ following s.order) × (last.losses ≡ s.losses)
IsTurn work number Network s last =
    IsForNetwork work number s × HaveNetworkTurns work.layout.nodes s last

-- the turns from this number on are those that the rule gives, and lead from a state to another; no
-- turn follows once every node is over
abbrev pub FollowsLoss : Work → (number : ℕ) → State → List Turn → State → Type 0
FollowsLoss work number s [] last = last ≡ s
FollowsLoss work number s (t ∷ ts) last = (AreAllOver work s → ⊥)
    × (next : State) × IsTurn work number t s next × FollowsLoss work (suc number) next ts last

-- The outcome of the run with loss, for an order and a loss. It is made of the turns that the rule
-- gives until every node is over. Its ordinary events are a core run, and the core that they reach,
-- for which the nodes and links stand, stands for its own run, whose outcome this is.
pub record IsOutcomeWithLoss (work : Work) (order loss : ℕ) (o : Outcome) : Type 0 where
  pub turns : List Turn
  pub last : State
  pub follows : FollowsLoss work 1 (opening_state work order loss) turns last
  pub over : AreAllOver work last
  pub is_run : IsCoreRun work (opening_core work) (ordinary turns)
  pub stand : StandFor work.layout.nodes last.nodes last.links
      (after work (opening_core work) (ordinary turns))
  pub own : List Stamped
  pub stands : StandsForOwnRun work (after work (opening_core work) (ordinary turns)) own
  pub outcome : IsOutcomeOf work (run_of own) o
