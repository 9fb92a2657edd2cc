-- Helps the code alone: the events that are allowed, as they are listed node by node.
use Rattle.std.specs.Prelude.{◌≡◌, ℕ, ◌+◌, ◌*◌, ◌<◌, ◌≤◌, true, false, List, length, map, filter, slice_index_or, Vec}
use Rattle.std.specs.Vec.{vec_capacity}
use Rattle.std.specs.declared.alloc.Global.{Global}
use Rattle.dsm_core.specs.node_model.Node.{Work}
use Rattle.dsm_core.specs.node_model.Core.{Core, Event}
use Rattle.dsm_core.specs.declared.cores.Event.{Event as Stored}
use Rattle.dsm_core.specs.CoreParts.{CoreParts, work_of, core_of, event_of}
use Rattle.shared_sim.specs.ByOrder.{choices, events_at, is_allowed}
use Rattle.shared_sim.specs.Mail.{HasNoMail}
use Rattle.shared_sim.specs.declared.listing.Listing.{Listing}

-- the events of node i that are allowed
abbrev pub allowed_at : Work → Core → ℕ → List Event
allowed_at work c i = filter (is_allowed work c) (events_at work.layout.nodes i)

-- there is room for all events of node i
abbrev pub HasRowRoom : (n : ℕ) → List (Vec Stored Global) → ℕ → Type 0
HasRowRoom n rows i = (r : Vec Stored Global) → n + 1 ≤ vec_capacity (slice_index_or rows i r)

-- the events of node i that are allowed are listed
abbrev pub IsRowOf : CoreParts → List (Vec Stored Global) → ℕ → Type 0
IsRowOf p rows i = (r : Vec Stored Global)
    → map event_of (slice_index_or rows i r).items ≡ allowed_at (work_of p) (core_of p) i

-- a row for each node, with room
pub record HasShape (n : ℕ) (l : Listing) : Type 0 where
  pub rows : length l.nodes.items ≡ n
  pub room : (i : ℕ) → i < n → HasRowRoom n l.nodes.items i

-- what is listed of node i is so
pub record Tells (p : CoreParts) (l : Listing) (i : ℕ) : Type 0 where
  pub row : IsRowOf p l.nodes.items i
  pub mail : slice_index_or l.no_mail i false ≡ true → HasNoMail p.layout.nodes (core_of p) i

abbrev pub TellsAll : CoreParts → Listing → Type 0
TellsAll p l = (i : ℕ) → i < p.layout.nodes → Tells p l i

-- no message is on its way
abbrev pub IsCalm : (n : ℕ) → Core → Type 0
IsCalm n c = (i : ℕ) → i < n → HasNoMail n c i

-- the events of a core that are allowed
pub record Lists (p : CoreParts) (l : Listing) : Type 0 where
  pub shape : HasShape p.layout.nodes l
  pub tells : TellsAll p l
  pub count : l.count ≡ length (choices (work_of p) (core_of p))
  pub few : l.count ≤ 16 * 17
  pub calm : l.calm ≡ true → IsCalm p.layout.nodes (core_of p)
