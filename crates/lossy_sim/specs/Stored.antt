-- Helps the code alone: nodes, and the links between them, as they are stored.
use Rattle.std.specs.Prelude.{◌≡◌, ℕ, ◌+◌, ◌*◌, ◌<◌, ◌≤◌, ◌^◌, ◌==◌, true, if◌then◌else◌, List, length, slice_index_or}
use Rattle.dsm_messages.specs.declared.messages.Post.{Post}
use Rattle.dsm_messages.specs.declared.messages.Wire.{Wire}
use Rattle.lossy_link.specs.Sender.{number_offered}
use Rattle.lossy_link.specs.Receiver.{Receiving, Delivers}
use Rattle.dsm_core.specs.node_machine.declared.node_state.NodeState.{NodeState}
use Rattle.node_model.specs.Node.{Work, opening_node}
use Rattle.node_model.specs.Core.{Event, Exec, Take, wires_to}
use Rattle.dsm_core.specs.CoreParts.{HaveWork}
use Rattle.dsm_core.specs.CoreSteps.{node_or, CanExecute, IsStamped}
use Rattle.lossy_sim.specs.Links.{LossyLink, new_link, with_offered}
use Rattle.lossy_sim.specs.WithLoss.{State, HasEvent, HaveNetworkTurns, has_next}

-- the link from j to i
abbrev pub link_at : List LossyLink → (n j i : ℕ) → LossyLink
link_at links n j i = slice_index_or links (j * n + i) new_link

-- a link for each pair of up to 16 nodes
pub record AreLinks (links : List LossyLink) (n : ℕ) : Type 0 where
  pub few : n ≤ 16
  pub len : length links ≡ n * n

-- fewer than so many were offered on each link
abbrev pub HaveSentFewer : (most : ℕ) → List LossyLink → ℕ → Type 0
HaveSentFewer most links n = (j i : ℕ) → j < n → i < n
    → number_offered (link_at links n j i).sender < most

-- node j has offered these, in an event with this stamp
abbrev pub HaveOffered : (old new : List LossyLink) → (n j stamp : ℕ) → List Post → Type 0
HaveOffered old new n j stamp posts = (x y : ℕ) → x < n → y < n → link_at new n x y
    ≡ (if x == j then with_offered (link_at old n x y) (wires_to stamp y posts)
    else link_at old n x y)

-- so many more are offered on each link at most
abbrev pub HaveOfferedFew : (more : ℕ) (old new : List LossyLink) → ℕ → Type 0
HaveOfferedFew more old new n =
    (most : ℕ) → HaveSentFewer most old n → HaveSentFewer (most + more) new n

-- nodes and links, with a number of the order and one of the losses
abbrev pub state_of : Work → List NodeState → List LossyLink → (order losses : ℕ) → State
state_of work nodes links order losses = record {
  nodes = λ i. node_or nodes i (opening_node work i);
  links = link_at links work.layout.nodes;
  order = order;
  losses = losses;
}

-- the next message has come, and its stamp is in range
pub record HasNextStamped (l : LossyLink) : Type 0 where
  pub held : has_next l.receiver ≡ true
  pub stamp : (wire : Wire) (r : Receiving Wire) → Delivers l.receiver wire r → wire.stamp < 2 ^ 56

-- the event is allowed, and its stamps are in range
abbrev pub CanMake : (n : ℕ) → List NodeState → List LossyLink → Event → Type 0
CanMake n nodes links (Exec i) = CanExecute n nodes i
CanMake n nodes links (Take i j) =
    (i < n) × (j < n) × IsStamped nodes i × HasNextStamped (link_at links n j i)

-- the nodes and links have made the event, whatever they run
abbrev pub HaveMade : (n : ℕ) (old_nodes new_nodes : List NodeState)
    (old_links new_links : List LossyLink)
    → Event → Type 0
HaveMade n old_nodes new_nodes old_links new_links e = (work : Work) (order losses : ℕ)
    → work.layout.nodes ≡ n → HaveWork work old_nodes
    → HasEvent work e (state_of work old_nodes old_links order losses)
    (state_of work new_nodes new_links order losses)

-- each link has had its network turn, with the draws from one number of the losses to another
abbrev pub HaveTurned : (n : ℕ) (old new : List LossyLink) (losses last : ℕ) → Type 0
HaveTurned n old new losses last = (work : Work) (nodes : List NodeState) (order : ℕ)
    → work.layout.nodes ≡ n
    → HaveNetworkTurns n (state_of work nodes old order losses) (state_of work nodes new order last)
