-- Helps the code alone: a run with loss, as it is stored.
use Rattle.std.specs.Prelude.{◌≡◌, ℕ, ◌+◌, ◌*◌, ◌<◌, ◌≤◌, [], Some, map}
use Rattle.std.specs.Vec.{vec_capacity}
use Rattle.random_order.specs.Orders.{following}
use Rattle.node_model.specs.Node.{Work}
use Rattle.node_model.specs.Core.{Core, Event}
use Rattle.dsm_core.specs.CoreParts.{core_of, event_of, AreParts, HasStampsInRange}
use Rattle.shared_sim.specs.ByOrder.{pick_among}
use Rattle.lossy_sim.specs.Stored.{AreLinks, state_of}
use Rattle.lossy_sim.specs.UnderWay.{StandFor}
use Rattle.lossy_sim.specs.WithLoss.{State, Turn, HasEvent, IsTurn, choices}
use Rattle.lossy_sim.specs.declared.run.LossyRun.{LossyRun}

-- the state of its nodes and links
abbrev pub state_in : Work → LossyRun → State
state_in work r = state_of work r.parts.nodes r.links.items r.order r.losses

-- it has nodes, empty lists, a link for each pair, and room for the choices
pub record IsReady (r : LossyRun) : Type 0 where
  pub parts : AreParts r.parts
  pub empty : (j i : ℕ) → j < r.parts.layout.nodes → i < r.parts.layout.nodes
      → (core_of r.parts).list j i ≡ []
  pub links : AreLinks r.links.items r.parts.layout.nodes
  pub room : r.parts.layout.nodes * (1 + r.parts.layout.nodes) ≤ vec_capacity r.choices

-- its nodes and links stand for a core whose stamps are in range
pub record IsInRange (work : Work) (r : LossyRun) : Type 0 where
  pub core : Core
  pub stand : StandFor work.layout.nodes (state_in work r).nodes (state_in work r).links core
  pub range : HasStampsInRange work.layout.nodes core

-- the events that are allowed are listed
abbrev pub IsListed : Work → LossyRun → Type 0
IsListed work r = map event_of r.choices.items ≡ choices work (state_in work r)

-- the event that the order picks was made
pub record HasPicked (work : Work) (s last : State) : Type 0 where
  pub event : Event
  pub picked : pick_among (choices work s) (following s.order) ≡ Some event
  pub made : HasEvent work event s last
  pub order : last.order ≡ following s.order
  pub losses : last.losses ≡ s.losses

-- the turn of this number was made
pub record HasTurned (work : Work) (number : ℕ) (s last : State) : Type 0 where
  pub turn : Turn
  pub is : IsTurn work number turn s last
