-- The own run of a core: the events of its nodes, read off their journals, in the order of their
-- stamps. A core keeps no other record of the order in which its events were made.
use Rattle.std.specs.Prelude.{◌≡◌, ℕ, zero, suc, ◌+◌, ◌-◌, ◌<◌, List, [], ◌∷◌, ◌++◌, map}
use Rattle.node_model.specs.declared.Entry.{Entry as JournalEntry}
use Rattle.node_model.specs.Node.{Work, Node}
use Rattle.node_model.specs.Turns.{words_before}
use Rattle.node_model.specs.Core.{Core, Event, Exec, Take, AreAlike, IsCoreRun, opening_core, after}
use Rattle.run_order.specs.Sorted.{AreSortedOf}

-- an event, and its stamp
pub record Stamped : Type 0 where
  pub stamp : ℕ
  pub event : Event

-- node i executes so many words, the first with the stamp after this one
abbrev pub words_from : (i last words : ℕ) → List Stamped
words_from i last zero = []
words_from i last (suc k) =
    words_from i last k ++ record { stamp = last + suc k; event = Exec i } ∷ []

-- the takes of a journal, each after the words that were executed before it
abbrev pub events_in : (i last : ℕ) → List JournalEntry → List Stamped
events_in i last [] = []
events_in i last (e ∷ es) = words_from i last e.words
    ++ (record { stamp = e.stamp; event = Take i e.from } ∷ events_in i e.stamp es)

-- the stamp of a journal's last take
abbrev pub last_take : (last : ℕ) → List JournalEntry → ℕ
last_take last [] = last
last_take last (e ∷ es) = last_take e.stamp es

-- the events of node i: those of its journal, and the words executed since its last take
abbrev pub events_of : (i : ℕ) → Node → List Stamped
events_of i n = events_in i 0 n.journal
    ++ words_from i (last_take 0 n.journal) (n.executed - words_before n.journal)

abbrev pub stamp_in : Stamped → ℕ
stamp_in x = x.stamp

abbrev pub event_in : Stamped → Event
event_in x = x.event

abbrev pub node_of : Event → ℕ
node_of (Exec i) = i
node_of (Take i j) = i

-- the node that makes an event
abbrev pub maker : Stamped → ℕ
maker x = node_of x.event

-- the events without their stamps
abbrev pub run_of : List Stamped → List Event
run_of events = map event_in events

-- these are the events of n nodes, sorted by (stamp, node)
abbrev pub AreEventsOf : (n : ℕ) → (ℕ → Node) → List Stamped → Type 0
AreEventsOf n nodes events = AreSortedOf stamp_in maker n (λ i. events_of i (nodes i)) events

-- The core stands for its own run: its nodes' events, sorted, are a core run from the start, and
-- end in exactly these nodes and lists.
pub record StandsForOwnRun (work : Work) (c : Core) (events : List Stamped) : Type 0 where
  pub are_events : AreEventsOf work.layout.nodes c.nodes events
  pub is_run : IsCoreRun work (opening_core work) (run_of events)
  pub ends : AreAlike work.layout.nodes c (after work (opening_core work) (run_of events))

-- the events of each node of the first core are the first events of that node of the second
abbrev pub OnlyAdds : ℕ → Core → Core → Type 0
OnlyAdds n c d = (i : ℕ) → i < n
    → (more : List Stamped) × (events_of i (d.nodes i) ≡ events_of i (c.nodes i) ++ more)
