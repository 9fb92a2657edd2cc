-- Helps the code alone: the turns of an order, one after another.
use Rattle.std.specs.Prelude.{◌≡◌, ℕ, ◌+◌, ◌≤◌, List, [], ◌∷◌, Some, length}
use Rattle.random_order.specs.Orders.{following, after_turns}
use Rattle.lane_model.specs.Nodes.{LaneWork}
use Rattle.lane_model.specs.Core.{LaneCore, LaneEvent, event_step, opening_core}
use Rattle.smp_sim.specs.CoreParts.{CoreParts, IsRunTo, core_of, work_of}
use Rattle.smp_sim.specs.ByOrder.{choices, pick_among}

-- the order's next numbers pick these events
abbrev pub ArePicked : LaneWork → ℕ → LaneCore → List LaneEvent → Type 0
ArePicked w number c [] = Unit {0}
ArePicked w number c (e ∷ es) =
    (pick_among (choices w c) (following number) ≡ Some e)
    × ArePicked w (following number) (event_step w c e) es

-- at least so many events that an order picks lead from the start to a core, and the order has come to this
-- number meanwhile
pub record LeadsTo (first turns last : ℕ) (p : CoreParts) : Type 0 where
  pub events : List LaneEvent
  pub many : turns ≤ length events
  pub picked : ArePicked (work_of p) first (opening_core (work_of p)) events
  pub numbers : last ≡ after_turns (length events) first
  pub run : IsRunTo events p

-- at least so many turns lead from one core to another: the order picks them after those that lead
-- from the start to the first
abbrev pub LeadsOn : (least number : ℕ) → CoreParts → (last : ℕ) → CoreParts → Type 0
LeadsOn least number p last q =
    (first turns : ℕ) → LeadsTo first turns number p → LeadsTo first (turns + least) last q

-- turns lead from one core to another, and the event that the order picks then isn't made
pub record StopsAt (number : ℕ) (p : CoreParts) (next : ℕ) (q : CoreParts) (e : LaneEvent)
    : Type 0 where
  pub last : ℕ
  pub leads : LeadsOn 0 number p last q
  pub follows : next ≡ following last
  pub picked : pick_among (choices (work_of q) (core_of q)) next ≡ Some e
