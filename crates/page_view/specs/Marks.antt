-- What is drawn on a node's line at an event of its own.
use Rattle.std.specs.Prelude.{ℕ, if◌then◌else◌, List, [], ◌∷◌, ◌++◌, Option, None, Some, codes}
use Rattle.state_table.specs.declared.State.{State}
use Rattle.state_table.specs.declared.State.TheVariants.{Exclusive, Shared, Invalid, Pending}
use Rattle.page_events.specs.node_machine.declared.wanted.Wanted.{Wanted}
use Rattle.page_events.specs.run_trace.declared.traced.Accessed.{Accessed}
use Rattle.page_events.specs.run_trace.declared.traced.AccessKind.{AccessKind}
use Rattle.page_events.specs.run_trace.declared.traced.AccessKind.TheVariants as access
use Rattle.page_events.specs.run_trace.Traced.{What, Word, Taken}
use Rattle.page_view.specs.declared.marks.Mark.{Mark}
use Rattle.page_view.specs.declared.marks.Mark.TheVariants.{Holds, Misses, Reads, Writes, Acts}
use Rattle.page_events.specs.declared.places.Spot.{Spot}
use Rattle.page_events.specs.Places.{at_text}

-- the state of a block, where there is one
abbrev pub held : Option State → Mark
held None = Acts
held (Some s) = Holds s

abbrev pub missed : Option State → Mark
missed None = Acts
missed (Some s) = Misses s

abbrev pub mark_of_want : Wanted → Mark
mark_of_want w = if w.asks then missed w.state else held w.state

abbrev pub mark_of_kind : AccessKind → Mark
mark_of_kind access.Reads = Reads
mark_of_kind access.Writes = Writes
mark_of_kind access.WritesNot = Acts
mark_of_kind access.Exchanges = Writes

abbrev pub mark_of_access : Option Accessed → Mark
mark_of_access None = Acts
mark_of_access (Some a) = mark_of_kind a.kind

-- of a word's first want, else of its access
abbrev pub mark_of_word : List Wanted → Option Accessed → Mark
mark_of_word [] access = mark_of_access access
mark_of_word (w ∷ ws) access = mark_of_want w

-- of a message that was taken it is the state that its block has now
abbrev pub mark_of : What → Mark
mark_of (Word w) = mark_of_word w.wants w.access
mark_of (Taken t) = held t.becomes

-- a state has its letter
abbrev pub letter_of : State → List ℕ
letter_of Exclusive = codes "e"
letter_of Shared = codes "s"
letter_of Invalid = codes "i"
letter_of Pending = codes "p"

abbrev pub mark_name : Mark → List ℕ
mark_name (Holds s) = letter_of s
mark_name (Misses s) = codes "miss-" ++ letter_of s
mark_name Reads = codes "reads"
mark_name Writes = codes "writes"
mark_name Acts = codes "acts"

abbrev pub mark_text : Mark → Spot → List ℕ
mark_text m spot =
    codes "<use href='#" ++ (mark_name m ++ (codes "'" ++ (at_text spot ++ codes "/>")))
