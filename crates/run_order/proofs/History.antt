-- What the events of a core did, and the runs that they make.
use Rattle.std.proofs.Common.{◌≡◌, ◌≢◌, ℕ, ◌+◌, ◌<◌, ◌≤◌, cond, eqb, Option, Some, None, List, [], ◌∷◌, ◌++◌}
use Rattle.node_model.specs.dsm_messages.declared.messages.Post.{Post}
use Rattle.node_model.specs.dsm_messages.declared.messages.Wire.{Wire}
use Rattle.node_model.specs.Node.{Node}
use Rattle.node_model.specs.Core.{Core, Event, Exec, Take, wires_to}
use Rattle.run_order.specs.OwnRun.{Stamped}
use Rattle.run_order.specs.Merge.{Printed}

-- What one event did: its node, its stamp, the wire that it took and its sender, what it sent, and
-- the byte that it printed.
pub record LocalEvent : Type 0 where
  pub node : ℕ
  pub stamp : ℕ
  pub took : Option (ℕ × Wire)
  pub posts : List Post
  pub byte : Option ℕ

abbrev pub event_by : ℕ → Option (ℕ × Wire) → Event
event_by i None = Exec i
event_by i (Some p) = Take i p.0

abbrev pub stamped : LocalEvent → Stamped
stamped d = record { stamp = d.stamp; event = event_by d.node d.took }

abbrev pub byte_by : ℕ → ℕ → Option ℕ → List Printed
byte_by i stamp None = []
byte_by i stamp (Some b) = record { stamp = stamp; node = i; byte = b } ∷ []

-- the bytes that the events printed
abbrev pub prints : List LocalEvent → List Printed
prints [] = []
prints (d ∷ ds) = byte_by d.node d.stamp d.byte ++ prints ds

-- the wire, if it came from j
abbrev pub if_from : ℕ → Option (ℕ × Wire) → List Wire
if_from j None = []
if_from j (Some p) = cond (eqb j p.0) (p.1 ∷ []) []

-- what node k takes from node j by one event, and what node j sends to node k by it
abbrev pub takes : ℕ → ℕ → LocalEvent → List Wire
takes j k e = cond (eqb k e.node) (if_from j e.took) []

abbrev pub sends : ℕ → ℕ → LocalEvent → List Wire
sends j k e = cond (eqb j e.node) (wires_to e.stamp k e.posts) []

-- the same for a list of events
abbrev pub taken : ℕ → ℕ → List LocalEvent → List Wire
taken j k [] = []
taken j k (e ∷ es) = takes j k e ++ taken j k es

abbrev pub sent : ℕ → ℕ → List LocalEvent → List Wire
sent j k [] = []
sent j k (e ∷ es) = sends j k e ++ sent j k es

-- the events of node i, in order
abbrev pub of : ℕ → List LocalEvent → List LocalEvent
of i [] = []
of i (e ∷ es) = cond (eqb e.node i) (e ∷ of i es) (of i es)

-- every event has this stamp or a later one
abbrev pub From : ℕ → List LocalEvent → Type 0
From m [] = Unit {0}
From m (e ∷ es) = (m ≤ e.stamp) × From m es

-- no stamp is below one before it
abbrev pub Ascends : List LocalEvent → Type 0
Ascends [] = Unit {0}
Ascends (e ∷ es) = From e.stamp es × Ascends es

-- each stamp is above those before it
abbrev pub Climbs : List LocalEvent → Type 0
Climbs [] = Unit {0}
Climbs (e ∷ es) = From (e.stamp + 1) es × Climbs es

-- a wire is taken by an event with a greater stamp
abbrev pub IsLater : ℕ → Option (ℕ × Wire) → Type 0
IsLater m None = Unit {0}
IsLater m (Some p) = p.1.stamp < m

abbrev pub AreLater : List LocalEvent → Type 0
AreLater [] = Unit {0}
AreLater (e ∷ es) = IsLater e.stamp e.took × AreLater es

module _ (Moves : Node → LocalEvent → Node → Type 0) where
  -- one node alone, over a list of its events
  abbrev pub Local : Node → List LocalEvent → Node → Type 0
  Local s [] t = s ≡ t
  Local s (e ∷ es) t = (u : Node) × Moves s e u × Local u es t

  -- one event: its node moves and no other. A take has the first wire of its list, and what is sent
  -- comes behind.
  abbrev pub Steps : Core → LocalEvent → Core → Type 0
  Steps s e t =
      Moves (s.nodes e.node) e (t.nodes e.node)
      × ((i : ℕ) → i ≢ e.node → t.nodes i ≡ s.nodes i)
      × ((j k : ℕ) → (rest : List Wire)
      × (s.list j k ≡ takes j k e ++ rest) × (t.list j k ≡ rest ++ sends j k e))

  abbrev pub Run : Core → List LocalEvent → Core → Type 0
  Run s [] t = s ≡ t
  Run s (e ∷ es) t = (u : Core) × Steps s e u × Run u es t

  -- What holds in whatever order the events were made: each node made its own events, and of each
  -- list what was taken and then what is there is what was there and then what was sent.
  abbrev pub Fits : Core → List LocalEvent → Core → Type 0
  Fits s es t =
      ((i : ℕ) → Local (s.nodes i) (of i es) (t.nodes i))
      × ((j k : ℕ) → taken j k es ++ t.list j k ≡ s.list j k ++ sent j k es)
