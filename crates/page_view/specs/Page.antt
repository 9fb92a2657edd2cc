-- The page.
use Rattle.std.specs.Prelude.{ℕ, List, [], ◌∷◌, ◌++◌, length, Option, None, Some, codes}
use Rattle.std.specs.Fmt.{decimal}
use Rattle.elf32_read.specs.Elf.{Elf}
use Rattle.block_layout.specs.Layout.{Shape}
use Rattle.page_events.specs.run_trace.Traced.{Traced}
use Rattle.page_events.specs.event_text.Parts.{number_text}
use Rattle.page_events.specs.Shown.{Kept, kept}
use Rattle.page_events.specs.Escape.{escaped}
use Rattle.page_view.specs.Frame.{command, end, style, marks, legend, notes, table, top}
use Rattle.page_view.specs.Figure.{figure_text}
use Rattle.page_view.specs.Blocks as block
pub use Rattle.page_events.specs.Shown.{first_stamp}

-- 1. The heading

abbrev pub name_text : (nodes : ℕ) → List ℕ
name_text nodes = codes "A run of " ++ (decimal nodes ++ codes " nodes")

-- what stands before the body
abbrev pub top_text : (nodes : ℕ) → List ℕ
top_text nodes = top ++ (name_text nodes ++ (codes "</title>\n<style>\n" ++ style))

abbrev pub heading_text : (nodes : ℕ) → List ℕ
heading_text nodes =
    codes "</style>\n</head>\n<body>\n<h1>" ++ (name_text nodes ++ codes "</h1>\n")

abbrev pub start_text : (nodes : ℕ) → List ℕ
start_text nodes = top_text nodes ++ heading_text nodes

-- 2. Which events

-- the stamp of the last event, or this one
abbrev pub last_stamp : Option ℕ → List Traced → Option ℕ
last_stamp s [] = s
last_stamp s (x ∷ xs) = last_stamp (Some x.stamp) xs

abbrev pub between_text : (first last : ℕ) → List ℕ
between_text first last = decimal first ++ (codes " to " ++ (decimal last ++ codes ".</p>\n"))

abbrev pub stamps_text : (events first last : ℕ) → List ℕ
stamps_text events first last =
    codes "<p>" ++ (decimal events
    ++ (codes " events, with stamps from " ++ between_text first last))

abbrev pub range_by : (events : ℕ) → (first last : Option ℕ) → List ℕ
range_by events (Some first) (Some last) = stamps_text events first last
range_by events first last = codes "<p>No such event.</p>\n"

-- how many events, and from which stamp to which
abbrev pub range_text : List Traced → List ℕ
range_text events = range_by (length events) (first_stamp events) (last_stamp None events)

-- the command line of a page from a stamp on
abbrev pub words_text : (from : ℕ) → (to : Option ℕ) → List ℕ
words_text from to = command ++ (decimal from ++ number_text (codes " --to ") to)

-- how the events from a stamp on are shown
abbrev pub following_text : (from : ℕ) → (to : Option ℕ) → List ℕ
following_text from to =
    codes "<p>More follow: <code>" ++ (escaped (words_text from to) ++ codes "</code></p>\n")

-- how the events after those of the page are shown
abbrev pub next_text : (to behind : Option ℕ) → List ℕ
next_text to None = []
next_text to (Some s) = following_text s to

abbrev pub events_text : (to : Option ℕ) → Kept → List ℕ
events_text to k = range_text k.events ++ next_text to k.behind

-- 3. Beside the diagram

abbrev pub legend_text : List ℕ
legend_text = marks ++ (legend ++ notes)

abbrev pub table_text : Shape → List Traced → List ℕ
table_text layout events =
    table ++ (block.rows_text layout events ++ codes "</tbody>\n</table>\n")

abbrev pub aside_text : Shape → List Traced → List ℕ
aside_text layout events =
    codes "<main>\n<aside>\n" ++ (legend_text
    ++ (table_text layout events ++ codes "</aside>\n<div>\n"))

-- 4. The page

-- of these events of a program
abbrev pub text_of : Elf → Shape → (to : Option ℕ) → Kept → List ℕ
text_of elf layout to k =
    start_text layout.nodes ++ (events_text to k ++ (aside_text layout k.events
    ++ (figure_text elf layout.nodes k.events ++ end)))

-- of the first 400 of these events
abbrev pub page_text : Elf → Shape → (to : Option ℕ) → (seen : List Traced) → List ℕ
page_text elf layout to seen = text_of elf layout to (kept seen)
