-- Helps the code alone: how far the journals of a record were followed, and a core on its way.
use Rattle.std.specs.Prelude.{◌≡◌, ◌≢◌, ℕ, true, zero, suc, ◌+◌, ◌-◌, ◌<◌, ◌≤◌, ◌⊎◌, List, [], ◌∷◌, ◌++◌, drop, map, length, replicate, slice_index_or, Option, MatchOption}
use Rattle.run_order.specs.node_model.declared.Entry.{Entry as JournalEntry}
use Rattle.run_order.specs.node_model.Node.{Work, standing_of}
use Rattle.run_order.specs.node_model.Turns.{silent, word_turn}
use Rattle.run_order.specs.node_model.Core.{Core, Event, Exec, Take, May, may_execute, AreAlike, event_step, opening_core, after}
use Rattle.run_order.specs.Sorted.{made_by}
use Rattle.run_record.specs.declared.Record.{Record}
use Rattle.run_record.specs.Record.{IsRecord, AreTakesBehind}
use Rattle.dsm_core.specs.declared.seen.Seen.{Seen}
use Rattle.dsm_core.specs.CoreParts.{CoreParts, work_of, core_of}
use Rattle.dsm_core.specs.Seen.{IsSeen}
use Rattle.replay.specs.declared.cursor.Cursor.{Cursor}
use Rattle.replay.specs.declared.cursor.Cursors.{Cursors}
use Rattle.replay.specs.declared.cursor.First.{First}
use Rattle.replay.specs.declared.events.Replayer.{Replayer}
use Rattle.replay.specs.declared.events.WordsAhead.{WordsAhead}
use Rattle.replay.specs.Told.{Told, told_in, entries_of, stamp_told, maker_told, what_told, AreToldBy, events_told, AreMadeAs}

-- the entries, the first without so many of its words
abbrev pub without : (words : ℕ) → List JournalEntry → List JournalEntry
without words [] = []
without words (e ∷ es) = record e { words = e.words - words } ∷ es

-- what is left of a journal
abbrev pub left_of : Cursor → List JournalEntry → List JournalEntry
left_of c es = without c.words (drop c.takes es)

abbrev pub start_of : Cursor
start_of = record { takes = 0; words = 0; last = 0 }

-- how far the journal of node i was followed
abbrev pub cursor_at : Cursors → ℕ → Cursor
cursor_at w i = slice_index_or w.cursors i start_of

abbrev pub entries_at : Cursors → ℕ → List JournalEntry
entries_at w i = entries_of w.rec.now i

-- the next entry of a node's journal
abbrev pub IsEntryOf : Cursors → (node : ℕ) → JournalEntry → Type 0
IsEntryOf w node e = drop (cursor_at w node).takes (entries_at w node)
    ≡ e ∷ drop ((cursor_at w node).takes + 1) (entries_at w node)

-- the events of node i that are still told of
abbrev pub left_at : Cursors → ℕ → List Told
left_at w i =
    told_in i ((cursor_at w i).takes + 1) (cursor_at w i).last
    (left_of (cursor_at w i) (entries_at w i))

-- the stamp of node i's last event
abbrev pub last_at : Cursors → ℕ → ℕ
last_at w i = (cursor_at w i).last

-- of a record; what is left of each journal is of takes one after another
pub record AreLawful (w : Cursors) : Type 0 where
  pub is_record : IsRecord w.rec.now
  pub left : (i : ℕ) → i < w.rec.now.nodes
      → AreTakesBehind w.rec.now.nodes (last_at w i) (left_of (cursor_at w i) (entries_at w i))

-- the first of the events of node i has this stamp
pub record IsNext (i stamp : ℕ) (left : List Told) : Type 0 where
  pub event : Told
  pub behind : List Told
  pub left_is : left ≡ event ∷ behind
  pub stamp_is : stamp_told event ≡ stamp
  pub maker_is : maker_told event ≡ i

-- an event of a node with this stamp comes before those of node i
abbrev pub ComesBefore : (stamp node i : ℕ) → List Told → Type 0
ComesBefore stamp node i left = (s : ℕ) → IsNext i s left
    → (stamp < s) ⊎ ((stamp ≡ s) × (node < i))

-- it comes before those of all other nodes below m
abbrev pub ComesFirst : (w : Cursors) (m stamp node : ℕ) → Type 0
ComesFirst w m stamp node = (i : ℕ) → i < m → i ≢ node → ComesBefore stamp node i (left_at w i)

-- of the nodes below m, this one's next event has this stamp; it and the words after it, up to the
-- stamp `to`, come before the events of all others
pub record IsFirst (w : Cursors) (m : ℕ) (x : First) : Type 0 where
  pub below : x.node < m
  pub next : IsNext x.node x.stamp (left_at w x.node)
  pub some : x.stamp ≤ x.to
  pub others : ComesFirst w m x.to x.node

-- the first of the next events of the nodes below m, if there is any
abbrev pub IsFirstBelow : (w : Cursors) (m : ℕ) → Option First → Type 0
IsFirstBelow w m first = MatchOption first ((i : ℕ) → i < m → left_at w i ≡ []) (IsFirst w m)

-- one node's journal was followed to here, and no other
pub record HasFollowed (old : Cursors) (node : ℕ) (c : Cursor) (new : Cursors) : Type 0 where
  pub rec_is : new.rec.now ≡ old.rec.now
  pub own : cursor_at new node ≡ c
  pub others : (i : ℕ) → i ≢ node → cursor_at new i ≡ cursor_at old i

-- The core has made these events, which are the first that the record tells of, as they are told
-- of, and these are left to each node, after its event with this stamp.
pub record IsBehind (work : Work) (r : Record) (left : ℕ → List Told) (last : ℕ → ℕ) (c : Core)
    (before : List Told) : Type 0 where
  pub rest : List Told
  pub are_told : AreToldBy r (before ++ rest)
  pub made : AreMadeAs work (opening_core work) (map what_told before)
  pub alike : AreAlike work.layout.nodes c (after work (opening_core work) (events_told before))
  pub each : (i : ℕ) → i < work.layout.nodes → made_by stamp_told maker_told i rest ≡ left i
  pub stamps : (i : ℕ) → i < work.layout.nodes → (c.nodes i).stamp ≡ last i

-- it has made some events so
abbrev pub IsOnWay : Work → Record → (left : ℕ → List Told) → (last : ℕ → ℕ) → Core → Type 0
IsOnWay work r left last c = (before : List Told) × IsBehind work r left last c before

-- the core of a run has made the events that its record tells of up to where it was followed
pub record IsRunning (r : Replayer) : Type 0 where
  pub lawful : AreLawful r.cursors
  pub nodes : r.core.layout.nodes ≡ r.cursors.rec.now.nodes
  pub way : IsOnWay (work_of r.core) r.cursors.rec.now (left_at r.cursors) (last_at r.cursors)
      (core_of r.core)

-- the core of a run has made these events
pub record HasMade (r : Replayer) (before : List Told) : Type 0 where
  pub lawful : AreLawful r.cursors
  pub nodes : r.core.layout.nodes ≡ r.cursors.rec.now.nodes
  pub way : IsBehind (work_of r.core) r.cursors.rec.now (left_at r.cursors) (last_at r.cursors)
      (core_of r.core) before

-- the next event of node i is a word, which comes before the events of all others
pub record IsNextWord (w : Cursors) (i : ℕ) : Type 0 where
  pub node : i < w.rec.now.nodes
  pub entry : JournalEntry
  pub is_entry : IsEntryOf w i entry
  pub words : (cursor_at w i).words < entry.words
  pub first : ComesFirst w w.rec.now.nodes (last_at w i + 1) i

-- it is the take of this message, from node j
pub record IsNextTake (w : Cursors) (i j : ℕ) : Type 0 where
  pub node : i < w.rec.now.nodes
  pub entry : JournalEntry
  pub is_entry : IsEntryOf w i entry
  pub words : entry.words ≤ (cursor_at w i).words
  pub from : entry.from ≡ j
  pub sender : j < w.rec.now.nodes
  pub first : ComesFirst w w.rec.now.nodes entry.stamp i

-- an event is the next of all
abbrev pub IsNextOf : Replayer → Event → Type 0
IsNextOf r (Exec i) = IsNextWord r.cursors i
IsNextOf r (Take i j) = IsNextTake r.cursors i j

-- a run has made an event more, of which this was seen
pub record HasMadeOne (old new : Replayer) (before : List Told) (e : Event) (s : Seen) : Type 0
  where
    pub told : Told
    pub event_is : told.what.event ≡ e
    pub made : HasMade new (before ++ told ∷ [])
    pub may : May (work_of old.core) (core_of old.core) e
    pub stamp : ((core_of new.core).nodes (maker_told told)).stamp ≡ stamp_told told
    pub leads : AreAlike old.core.layout.nodes (core_of new.core)
        (event_step (work_of old.core) (core_of old.core) e)
    pub seen : IsSeen (work_of old.core) (core_of old.core) e s

-- an event is a word that sends nothing and prints nothing, after which its node may execute
-- another
abbrev pub IsSilent : Work → Core → Event → Type 0
IsSilent work c (Exec i) =
    (word_turn work (c.nodes i) ≡ silent (word_turn work (c.nodes i)).node)
    × (may_execute (standing_of work (word_turn work (c.nodes i)).node) ≡ true)
IsSilent work c (Take i j) = ⊥

-- a run has made one such word more, of node i
pub record HasMadeWord (old new : Replayer) (before : List Told) (i : ℕ) : Type 0 where
  pub told : Told
  pub event_is : told.what.event ≡ Exec i
  pub made : HasMade new (before ++ told ∷ [])
  pub may : May (work_of old.core) (core_of old.core) (Exec i)
  pub stamp : ((core_of new.core).nodes i).stamp ≡ stamp_told told
  pub silent : IsSilent (work_of old.core) (core_of old.core) (Exec i)

-- a run has made so many words more, of node i
pub record HasMadeWords (new : Replayer) (before : List Told) (i words : ℕ) : Type 0 where
  pub more : List Told
  pub events : events_told more ≡ replicate words (Exec i)
  pub made : HasMade new (before ++ more)

-- these words of a node are told of next, before the events of all others, and it may execute one
pub record IsStretch (r : Replayer) (s : WordsAhead) : Type 0 where
  pub node : s.node < r.cursors.rec.now.nodes
  pub may : May (work_of r.core) (core_of r.core) (Exec s.node)
  pub is_entry : IsEntryOf r.cursors s.node s.entry
  pub words : (cursor_at r.cursors s.node).words + s.words ≤ s.entry.words
  pub first : 0 < s.words
      → ComesFirst r.cursors r.cursors.rec.now.nodes (last_at r.cursors s.node + s.words) s.node

-- a stretch has a word less
pub record IsWordLess (old new : WordsAhead) : Type 0 where
  pub node : new.node ≡ old.node
  pub entry : new.entry ≡ old.entry
  pub words : old.words ≡ new.words + 1

-- a stretch has so many words less
pub record IsLessBy (words : ℕ) (old new : WordsAhead) : Type 0 where
  pub node : new.node ≡ old.node
  pub entry : new.entry ≡ old.entry
  pub left : old.words ≡ new.words + words

-- no journal tells of more
abbrev pub AreThrough : Replayer → Type 0
AreThrough r = (i : ℕ) → i < r.core.layout.nodes → left_at r.cursors i ≡ []

-- how many events are left to the nodes below m
abbrev pub count_left : Cursors → (m : ℕ) → ℕ
count_left w zero = 0
count_left w (suc m) = count_left w m + length (left_at w m)

abbrev pub all_left : Cursors → ℕ
all_left w = count_left w w.rec.now.nodes

-- how many events are left to be made
abbrev pub events_left : Replayer → ℕ
events_left r = all_left r.cursors

-- what a run shows: its core, and its record
abbrev pub core_in : Replayer → CoreParts
core_in r = r.core

abbrev pub record_in : Replayer → Record
record_in r = r.cursors.rec.now

-- the same record and rewritten code
pub record IsSame (old new : Replayer) : Type 0 where
  pub work : work_of new.core ≡ work_of old.core
  pub rec_is : new.cursors.rec.now ≡ old.cursors.rec.now
