-- The diagram.
use Rattle.std.specs.Prelude.{ℕ, zero, suc, List, [], ◌++◌, codes}
use Rattle.std.specs.Fmt.{decimal}
use Rattle.elf32_read.specs.Elf.{Elf}
use Rattle.page_events.specs.run_trace.Traced.{Traced}
use Rattle.page_view.specs.Frame.{columns, drawings, opening}
use Rattle.page_events.specs.Places.{line_of, lower_edge}
use Rattle.page_view.specs.Waits.{waits_text}
use Rattle.page_view.specs.Arrows.{arrows_text}
use Rattle.page_view.specs.Rows.{rows_text}

-- the name of a node, above its line
abbrev pub head_of : (nodes node : ℕ) → List ℕ
head_of nodes node =
    codes "<text class='node' x='" ++ (decimal (line_of nodes node)
    ++ (codes "' y='30'>" ++ (decimal node ++ codes "</text>")))

-- the names of the first so many
abbrev pub heads_of : (nodes n : ℕ) → List ℕ
heads_of nodes zero = []
heads_of nodes (suc n) = heads_of nodes n ++ head_of nodes n

abbrev pub heads_text : (nodes : ℕ) → List ℕ
heads_text nodes = columns ++ (heads_of nodes nodes ++ codes "</svg></div>\n")

-- the line of a node
abbrev pub line_text : (nodes : ℕ) → List Traced → (node : ℕ) → List ℕ
line_text nodes events node =
    codes "<path class='line' d='M" ++ (decimal (line_of nodes node)
    ++ (codes " 0V" ++ (decimal (lower_edge events) ++ codes "'/>\n")))

-- the lines of the first so many
abbrev pub lines_of : (nodes : ℕ) → List Traced → (n : ℕ) → List ℕ
lines_of nodes events zero = []
lines_of nodes events (suc n) = lines_of nodes events n ++ line_text nodes events n

abbrev pub opening_text : List Traced → List ℕ
opening_text events =
    opening ++ (decimal (lower_edge events) ++ (codes "'>\n" ++ drawings))

-- the lines, over them the waits and the messages
abbrev pub ways_text : (nodes : ℕ) → List Traced → List ℕ
ways_text nodes events =
    lines_of nodes events nodes ++ (waits_text nodes events ++ arrows_text nodes events)

-- and over these the events
abbrev pub figure_text : Elf → (nodes : ℕ) → List Traced → List ℕ
figure_text elf nodes events =
    heads_text nodes ++ (opening_text events ++ (ways_text nodes events
    ++ (rows_text elf nodes events ++ codes "</svg>\n")))
