-- The events that a record tells of, in their order.
use Rattle.std.specs.Prelude.{◌≡◌, ℕ, ◌+◌, List, [], ◌∷◌, ◌++◌, map, slice_index_or}
use Rattle.run_order.specs.node_model.declared.Entry.{Entry as JournalEntry}
use Rattle.run_order.specs.node_model.Node.{Work}
use Rattle.run_order.specs.node_model.Core.{Core, Event, Take, May, event_step}
use Rattle.run_order.specs.OwnRun.{Stamped, words_from, stamp_in, maker, run_of}
use Rattle.run_order.specs.Sorted.{AreSortedOf}
use Rattle.run_record.specs.declared.Record.{Record}

-- an event that a record tells of, and the entry of its node that tells of it, counted from 1
pub record Told : Type 0 where
  pub what : Stamped
  pub entry : ℕ

-- each of the events is told of by this entry
abbrev pub told_by : (entry : ℕ) → List Stamped → List Told
told_by entry events = map (λ x. record { what = x; entry = entry }) events

-- what the entries of node i tell of, from this entry on: the words of each, the first with the
-- stamp after this one, and then its take
abbrev pub told_in : (i entry last : ℕ) → List JournalEntry → List Told
told_in i entry last [] = []
told_in i entry last (e ∷ es) =
    told_by entry (words_from i last e.words
    ++ record { stamp = e.stamp; event = Take i e.from } ∷ [])
    ++ told_in i (entry + 1) e.stamp es

-- the entries of node i
abbrev pub entries_of : Record → ℕ → List JournalEntry
entries_of r i = slice_index_or r.journals i []

abbrev pub stamp_told : Told → ℕ
stamp_told x = stamp_in x.what

abbrev pub maker_told : Told → ℕ
maker_told x = maker x.what

abbrev pub what_told : Told → Stamped
what_told x = x.what

-- these are the events that the record tells of, by (stamp, node)
abbrev pub AreToldBy : Record → List Told → Type 0
AreToldBy r told =
    AreSortedOf stamp_told maker_told r.nodes (λ i. told_in i 1 0 (entries_of r i)) told

-- the events without their stamps and entries
abbrev pub events_told : List Told → List Event
events_told told = run_of (map what_told told)

-- the event is allowed, and it has the stamp that its node gives it
pub record IsMadeAs (work : Work) (c : Core) (x : Stamped) : Type 0 where
  pub may : May work c x.event
  pub stamp : ((event_step work c x.event).nodes (maker x)).stamp ≡ x.stamp

-- each is so where it comes
abbrev pub AreMadeAs : Work → Core → List Stamped → Type 0
AreMadeAs work c [] = Unit {0}
AreMadeAs work c (x ∷ xs) = IsMadeAs work c x × AreMadeAs work (event_step work c x.event) xs
