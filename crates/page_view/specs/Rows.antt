-- What each event did, in a row of its own.
use Rattle.std.specs.Prelude.{ℕ, if◌then◌else◌, List, [], ◌++◌, Option, None, Some, is_some, codes}
use Rattle.std.specs.Fmt.{decimal}
use Rattle.std.specs.Option.{option_map_or}
use Rattle.std.specs.List.{flat_map}
use Rattle.elf32_read.specs.Elf.{Elf}
use Rattle.exec_map.specs.Contents.{word_at}
use Rattle.templates.specs.declared.places.Place.{Place}
use Rattle.page_events.specs.node_machine.declared.wanted.Wanted.{Wanted}
use Rattle.page_events.specs.run_trace.declared.traced.Accessed.{Accessed}
use Rattle.page_events.specs.run_trace.Misses.{is_miss}
use Rattle.page_events.specs.run_trace.Traced.{OfWord, OfTake, What, Word, Taken, Traced}
use Rattle.page_events.specs.event_text.Names.{access_name, need_name}
use Rattle.page_events.specs.event_text.Parts.{number_text, text_if, header_text, state_text, original_text}
use Rattle.page_events.specs.event_text.Events.{event_line}
use Rattle.page_events.specs.declared.places.Spot.{Spot}
use Rattle.page_events.specs.Escape.{escaped}
use Rattle.page_events.specs.Places.{spot_of}
use Rattle.page_view.specs.Marks.{mark_of, mark_text}

-- 1. What an event did, in short

-- the instruction of the original at a place
abbrev pub place_text : Elf → Option Place → List ℕ
place_text elf None = codes " no place"
place_text elf (Some p) = original_text p.address (word_at elf p.address)

-- an access of a block
abbrev pub access_of : Accessed → List ℕ
access_of a = option_map_or (λ b. access_name a.kind ++ (codes "block " ++ decimal b)) a.block []

abbrev pub access_text : Option Accessed → List ℕ
access_text access = option_map_or access_of access []

-- a want, and whether a message asks for the block
abbrev pub want_text : Wanted → List ℕ
want_text w =
    (if w.asks then codes "; misses" else codes "; has")
    ++ (number_text (codes " block ") w.block ++ need_name w.need)

abbrev pub wants_text : List Wanted → List ℕ
wants_text ws = flat_map want_text ws

abbrev pub word_text : Elf → OfWord → List ℕ
word_text elf w =
    place_text elf w.place ++ (access_text w.access ++ (wants_text w.wants
    ++ (number_text (codes "; prints ") w.printed ++ text_if (is_some w.end) (codes "; ends"))))

abbrev pub take_text : OfTake → List ℕ
take_text t =
    codes " " ++ (header_text t.message ++ (state_text (codes "; ") t.was
    ++ (state_text (codes " to ") t.becomes ++ (text_if t.resumes (codes "; goes on")
    ++ text_if (is_some t.end) (codes "; ends")))))

abbrev pub what_text : Elf → What → List ℕ
what_text elf (Word w) = word_text elf w
what_text elf (Taken t) = take_text t

-- 2. Its row

-- the whole line, as it is read out
abbrev pub title_text : Elf → Traced → List ℕ
title_text elf x = codes "<title>" ++ (escaped (event_line elf x) ++ codes "</title>")

-- the stamp, at the left
abbrev pub stamp_text : (stamp y : ℕ) → List ℕ
stamp_text stamp y =
    codes "<text class='stamp' x='44' y='" ++ (decimal y ++ (codes "'>"
    ++ (decimal stamp ++ codes "</text>")))

abbrev pub maker_text : (node : ℕ) → List ℕ
maker_text node = codes "<tspan>" ++ (decimal node ++ codes "</tspan>")

abbrev pub did_text : Elf → What → List ℕ
did_text elf what = escaped (what_text elf what)

-- the node, and what it did, at the right
abbrev pub told_text : Elf → Traced → (y : ℕ) → List ℕ
told_text elf x y =
    codes "<text x='440' y='" ++ (decimal y ++ (codes "'>" ++ (maker_text x.node
    ++ (did_text elf x.what ++ codes "</text>"))))

abbrev pub class_of : What → List ℕ
class_of what = if is_miss what then codes "<g class='miss'>" else codes "<g>"

abbrev pub group_text : Elf → Traced → List ℕ
group_text elf x = class_of x.what ++ title_text elf x

-- the stamp, and the mark on the node's line
abbrev pub marked_text : Traced → Spot → List ℕ
marked_text x spot = stamp_text x.stamp spot.y ++ mark_text (mark_of x.what) spot

abbrev pub row_text : Elf → Traced → Spot → List ℕ
row_text elf x spot =
    group_text elf x ++ (marked_text x spot ++ (told_text elf x spot.y ++ codes "</g>\n"))

abbrev pub row_of : Elf → (nodes : ℕ) → List Traced → Traced → List ℕ
row_of elf nodes events x = row_text elf x (spot_of nodes events x)

abbrev pub rows_text : Elf → (nodes : ℕ) → List Traced → List ℕ
rows_text elf nodes events = flat_map (row_of elf nodes events) events
