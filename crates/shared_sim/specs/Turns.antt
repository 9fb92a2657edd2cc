-- Helps the code alone: the turns of an order, one after another.
use Rattle.std.specs.Prelude.{◌≡◌, ℕ, ◌≤◌, List, [], ◌∷◌, Some, length}
use Rattle.random_order.specs.Orders.{following, after_turns}
use Rattle.dsm_core.specs.node_model.Node.{Work}
use Rattle.dsm_core.specs.node_model.Core.{Core, Event, Exec, Take, AreAlike, event_step, after}
use Rattle.shared_sim.specs.ByOrder.{choices, pick_among}
use Rattle.shared_sim.specs.Listing.{Lists}
pub use Rattle.shared_sim.specs.Mail.{HasNoMail}
use Rattle.shared_sim.specs.declared.by_order.OrderedRun.{OrderedRun}

-- the order's next numbers pick these events
abbrev pub ArePicked : Work → ℕ → Core → List Event → Type 0
ArePicked work number c [] = Unit {0}
ArePicked work number c (e ∷ es) =
    (pick_among (choices work c) (following number) ≡ Some e)
    × ArePicked work (following number) (event_step work c e) es

-- events that the order picks, at least so many, lead from one core to another
pub record LeadsOn (work : Work) (least number : ℕ) (c : Core) (last : ℕ) (d : Core) : Type 0 where
  pub events : List Event
  pub picked : ArePicked work number c events
  pub many : least ≤ length events
  pub numbers : last ≡ after_turns (length events) number
  pub leads : AreAlike work.layout.nodes d (after work c events)

-- the node of an event
abbrev pub maker : Event → ℕ
maker (Exec i) = i
maker (Take i j) = i

-- the events that are allowed are listed
pub record IsReady (r : OrderedRun) : Type 0 where
  pub lists : Lists r.core r.listing
  pub few : r.core.layout.nodes ≤ 16
  pub undo_logs : r.undo_logs ≡ r.core.layout.nodes
