-- The messages, as arrows from where they are sent to where they are taken.
use Rattle.std.specs.Prelude.{ℕ, ◌+◌, ◌==◌, Bool, is_some, if◌then◌else◌, List, [], ◌++◌, Option, None, Some, option_and_then, codes}
use Rattle.std.specs.Fmt.{decimal}
use Rattle.std.specs.Option.{option_map_or}
use Rattle.std.specs.List.{flat_map}
use Rattle.dsm_messages.specs.declared.headers.Sent.{Sent}
use Rattle.dsm_messages.specs.declared.headers.MessageKind.{MessageKind}
use Rattle.dsm_messages.specs.declared.headers.MessageKind.TheVariants as kind
use Rattle.page_events.specs.run_trace.Traced.{OfTake, What, Word, Taken, Traced}
use Rattle.page_events.specs.event_text.Names.{message_name}
use Rattle.page_events.specs.event_text.Parts.{header_text}
use Rattle.page_view.specs.declared.arrows.Arrow.{Arrow}
use Rattle.page_events.specs.declared.places.Spot.{Spot}
use Rattle.page_events.specs.declared.sought.Sought.TheVariants.{Event, Takes}
use Rattle.page_events.specs.Escape.{escaped}
use Rattle.page_events.specs.Sought.{row_of}
use Rattle.page_events.specs.Places.{line_of, down_from, down_to, own_row, spot_text, at_text}

-- 1. Between whom, and in which rows

-- a message that was taken, from its sender's event to its taker's
abbrev pub arrow_taken : List Traced → Traced → OfTake → Arrow
arrow_taken events x t = record {
  header = t.message;
  from = t.from;
  to = x.node;
  sent = row_of events (Event t.from t.sent);
  taken = own_row events x;
}

-- a message that was sent, from its sender's event on
abbrev pub arrow_sent : List Traced → Traced → Sent → Arrow
arrow_sent events x s = record {
  header = s.header;
  from = x.node;
  to = s.to;
  sent = own_row events x;
  taken = None;
}

-- the message is taken on the page
abbrev pub is_taken : List Traced → Traced → Sent → (b : ℕ) → Bool
is_taken events x s b = is_some (row_of events (Takes s.to x.node x.stamp b))

-- a message about a block that isn't taken on the page
abbrev pub arrow_under_way : List Traced → Traced → Sent → Option Arrow
arrow_under_way events x s = option_and_then
    (λ b. if is_taken events x s b then None else Some (arrow_sent events x s)) s.header.block

-- 2. The drawing

-- what a message is for, by which it has its colour
abbrev pub purpose_of : MessageKind → List ℕ
purpose_of kind.Read = codes "asks"
purpose_of kind.Write = codes "asks"
purpose_of kind.FwdRead = codes "passes"
purpose_of kind.FwdWrite = codes "passes"
purpose_of kind.Inval = codes "passes"
purpose_of kind.Data = codes "answers"
purpose_of kind.Grant = codes "answers"
purpose_of kind.Ack = codes "answers"
purpose_of kind.Done = codes "ends"
purpose_of kind.Bye = codes "ends"

-- a message, and between which nodes it goes, as it is read out
abbrev pub between_text : Arrow → List ℕ
between_text a =
    header_text a.header ++ (codes " from node " ++ (decimal a.from
    ++ (codes " to node " ++ decimal a.to)))

abbrev pub title_text : Arrow → List ℕ
title_text a = codes "<title>" ++ (escaped (between_text a) ++ codes "</title>")

-- a place beside a node's line, 34 pixels to the right
abbrev pub beside_text : (x y : ℕ) → List ℕ
beside_text x y = decimal (x + 34) ++ (codes " " ++ (decimal y ++ codes " "))

-- a bend beside a node's line, between two rows
abbrev pub bow_text : Spot → Spot → List ℕ
bow_text from to = codes "C" ++ (beside_text from.x from.y ++ beside_text from.x to.y)

-- straight, or of a message to its own sender beside that one's line
abbrev pub bend_text : Spot → Spot → List ℕ
bend_text from to = if from.x == to.x then bow_text from to else codes "L"

abbrev pub way_text : Spot → Spot → List ℕ
way_text from to = spot_text from ++ (bend_text from to ++ spot_text to)

abbrev pub path_text : (class : List ℕ) → Spot → Spot → List ℕ
path_text class from to =
    codes "<path class='" ++ (class ++ (codes "' d='M" ++ (way_text from to ++ codes "'/>")))

-- the name stands at the head
abbrev pub name_text : MessageKind → Spot → List ℕ
name_text k to =
    codes "<text" ++ (at_text to ++ (codes ">" ++ (escaped (message_name k) ++ codes "</text>")))

-- a broad path to point at, the path itself and the name
abbrev pub drawing_text : MessageKind → Spot → Spot → List ℕ
drawing_text k from to =
    path_text (codes "broad") from to ++ (path_text (codes "way") from to ++ name_text k to)

abbrev pub start_of : (nodes : ℕ) → Arrow → Spot
start_of nodes a = record { x = line_of nodes a.from; y = down_from a.sent }

abbrev pub end_of : (nodes : ℕ) → List Traced → Arrow → Spot
end_of nodes events a = record { x = line_of nodes a.to; y = down_to events a.taken }

abbrev pub placed_text : (nodes : ℕ) → List Traced → Arrow → List ℕ
placed_text nodes events a =
    drawing_text a.header.kind (start_of nodes a) (end_of nodes events a)

abbrev pub group_text : MessageKind → List ℕ
group_text k = codes "<g class='message " ++ (purpose_of k ++ codes "' tabindex='0'>")

abbrev pub arrow_text : (nodes : ℕ) → List Traced → Arrow → List ℕ
arrow_text nodes events a =
    group_text a.header.kind
    ++ (title_text a ++ (placed_text nodes events a ++ codes "</g>\n"))

-- 3. All arrows

abbrev pub under_way_text : (nodes : ℕ) → List Traced → Traced → Sent → List ℕ
under_way_text nodes events x s =
    option_map_or (arrow_text nodes events) (arrow_under_way events x s) []

-- of messages that an event sent, those that aren't taken on the page
abbrev pub sends_text : (nodes : ℕ) → List Traced → Traced → List Sent → List ℕ
sends_text nodes events x sends = flat_map (under_way_text nodes events x) sends

-- the message that a take took, and those that it sent
abbrev pub taken_text : (nodes : ℕ) → List Traced → Traced → OfTake → List ℕ
taken_text nodes events x t =
    arrow_text nodes events (arrow_taken events x t) ++ sends_text nodes events x t.sends

-- the message that an event took, and what it sent
abbrev pub arrows_by : (nodes : ℕ) → List Traced → Traced → What → List ℕ
arrows_by nodes events x (Word w) = sends_text nodes events x w.sends
arrows_by nodes events x (Taken t) = taken_text nodes events x t

abbrev pub arrows_of : (nodes : ℕ) → List Traced → Traced → List ℕ
arrows_of nodes events x = arrows_by nodes events x x.what

abbrev pub arrows_text : (nodes : ℕ) → List Traced → List ℕ
arrows_text nodes events = flat_map (arrows_of nodes events) events
