-- A line of a trace: what an event did.
use Rattle.std.specs.Prelude.{ℕ, Bool, true, false, List, [], ◌∷◌, ◌++◌, Option, Some, None, codes, is_some}
use Rattle.std.specs.Fmt.{decimal}
use Rattle.elf32_read.specs.Elf.{Elf}
use Rattle.exec_map.specs.Contents.{word_at}
use Rattle.rv32_text.specs.Listing.{word_digits}
use Rattle.templates.specs.declared.places.Place.{Place}
use Rattle.dsm_messages.specs.declared.headers.Sent.{Sent}
use Rattle.run_trace.specs.Traced.{OfWord, OfTake, What, Word, Taken, Traced}
use Rattle.event_text.specs.Names.{row_name}
use Rattle.event_text.specs.Parts.{number_text, text_if, header_text, sends_text, accessed_text, state_text, wants_text, tally_text, original_text}

-- where a word stands, and the instruction of the original there
abbrev pub place_text : Elf → Option Place → List ℕ
place_text elf None = codes "no place"
place_text elf (Some p) = word_digits p.address ++ original_text p.address (word_at elf p.address)

-- what a word counts and prints, and whether it commits a step of the original
abbrev pub effects_text : OfWord → List ℕ
effects_text w =
    tally_text w.tally ++ (number_text (codes "; prints ") w.printed
    ++ text_if w.commits (codes "; commits"))

abbrev pub word_text : Elf → OfWord → List ℕ
word_text elf w =
    place_text elf w.place ++ (accessed_text w.access ++ (wants_text w.wants ++ (effects_text w
    ++ (sends_text w.sends ++ text_if (is_some w.end) (codes "; ends")))))

abbrev pub has_sends : List Sent → Bool
has_sends [] = false
has_sends (s ∷ ss) = true

abbrev pub row_text : OfTake → List ℕ
row_text t = text_if t.meets (row_name t.message.kind (has_sends t.sends) t.completes)

-- the states of the block before and now
abbrev pub states_text : OfTake → List ℕ
states_text t = state_text (codes "; ") t.was ++ state_text (codes " to ") t.becomes

-- which message was taken, and from whom
abbrev pub taken_text : OfTake → List ℕ
taken_text t = codes "takes " ++ (header_text t.message ++ (codes " from " ++ decimal t.from))

-- what came of it for the processor
abbrev pub after_text : OfTake → List ℕ
after_text t =
    tally_text t.tally ++ (text_if t.resumes (codes "; goes on")
    ++ text_if (is_some t.end) (codes "; ends"))

abbrev pub take_text : OfTake → List ℕ
take_text t =
    taken_text t ++ (row_text t ++ (states_text t
    ++ (text_if t.clears (codes "; ends the reservation") ++ (sends_text t.sends ++ after_text t))))

abbrev pub what_text : Elf → What → List ℕ
what_text elf (Word w) = word_text elf w
what_text elf (Taken t) = take_text t

-- the stamp and the node of an event
abbrev pub maker_text : (stamp node : ℕ) → List ℕ
maker_text stamp i = decimal stamp ++ (codes " node " ++ (decimal i ++ codes ": "))

-- the stamp, the node, and what the event did
abbrev pub event_line : Elf → Traced → List ℕ
event_line elf x = maker_text x.stamp x.node ++ (what_text elf x.what ++ codes "\n")
