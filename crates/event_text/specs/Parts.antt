-- The parts of a line of a trace.
use Rattle.std.specs.Prelude.{ℕ, Bool, true, false, List, [], ◌∷◌, ◌++◌, Option, Some, None, codes}
use Rattle.std.specs.Fmt.{decimal}
use Rattle.rv32_text.specs.Listing.{word_digits, text_of_word}
use Rattle.state_table.specs.declared.State.{State}
use Rattle.run_trace.specs.node_model.Node.{Tally, Nothing_counted, FalseMiss, FallsBack}
use Rattle.dsm_messages.specs.declared.headers.Header.{Header}
use Rattle.dsm_messages.specs.declared.headers.Sent.{Sent}
use Rattle.run_trace.specs.declared.traced.Accessed.{Accessed}
use Rattle.run_trace.specs.node_machine.declared.wanted.Wanted.{Wanted}
use Rattle.event_text.specs.Names.{message_name, state_name, access_name, need_name}

-- a number after a name, where there is one
abbrev pub number_text : (name : List ℕ) → Option ℕ → List ℕ
number_text name None = []
number_text name (Some n) = name ++ decimal n

abbrev pub address_text : ℕ → List ℕ
address_text a = codes "0x" ++ word_digits a

-- a text where this holds
abbrev pub text_if : Bool → List ℕ → List ℕ
text_if true text = text
text_if false text = []

-- a message, its block, for whom, and how many Acks come
abbrev pub header_text : Header → List ℕ
header_text h =
    message_name h.kind ++ (number_text (codes " of block ") h.block
    ++ (number_text (codes " for ") h.requester ++ number_text (codes " acks ") h.acks))

abbrev pub sent_text : Sent → List ℕ
sent_text s = codes "; sends " ++ (header_text s.header ++ (codes " to " ++ decimal s.to))

abbrev pub sends_text : List Sent → List ℕ
sends_text [] = []
sends_text (s ∷ ss) = sent_text s ++ sends_text ss

abbrev pub accessed_text : Option Accessed → List ℕ
accessed_text None = []
accessed_text (Some a) =
    access_name a.kind ++ (address_text a.address ++ number_text (codes " of block ") a.block)

abbrev pub state_text : (name : List ℕ) → Option State → List ℕ
state_text name None = []
state_text name (Some state) = name ++ state_name state

abbrev pub wanted_text : Wanted → List ℕ
wanted_text w =
    codes "; wants " ++ (address_text w.address ++ (number_text (codes " of block ") w.block
    ++ (need_name w.need ++ state_text (codes ", which is ") w.state)))

abbrev pub wants_text : List Wanted → List ℕ
wants_text [] = []
wants_text (w ∷ ws) = wanted_text w ++ wants_text ws

abbrev pub tally_text : Tally → List ℕ
tally_text Nothing_counted = []
tally_text FalseMiss = codes "; a false miss"
tally_text FallsBack = codes "; falls back"

-- an original word, where one stands there
abbrev pub original_text : (address : ℕ) → Option ℕ → List ℕ
original_text a None = codes " no code word"
original_text a (Some word) = codes " " ++ text_of_word a word
