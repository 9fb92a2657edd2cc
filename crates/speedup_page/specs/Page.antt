-- The page.
use Rattle.std.specs.Prelude.{ℕ, Bool, if◌then◌else◌, List, [], ◌++◌, Option, codes}
use Rattle.speedup_page.specs.declared.page.Parameters.{Parameters}
use Rattle.speedup_page.specs.declared.row.Base.{Base}
use Rattle.speedup_page.specs.declared.row.Base.TheVariants.{Steps, Trapped, Stopped}
use Rattle.speedup_page.specs.declared.row.Row.{Row}
use Rattle.speedup_page.specs.Frame.{end, notes, style, top}
use Rattle.speedup_page.specs.Rows.{numbered, steps_of, trap_name}
use Rattle.speedup_page.specs.Chart.{chart_text}
use Rattle.speedup_page.specs.Bars.{bars_text}
use Rattle.speedup_page.specs.Table.{table_text}

-- 1. The heading

abbrev pub name_text : (nodes : ℕ) → List ℕ
name_text nodes = numbered (codes "Speed-up on up to ") nodes ++ codes " nodes"

abbrev pub start_text : (nodes : ℕ) → List ℕ
start_text nodes =
    top ++ (name_text nodes ++ (codes "</title>\n<style>\n" ++ (style
    ++ (codes "</style>\n</head>\n<body>\n<main>\n<h1>" ++ (name_text nodes
    ++ codes "</h1>\n")))))

-- 2. The parameters, by the command that made the page

abbrev pub text_if : Bool → List ℕ → List ℕ
text_if there text = if there then text else []

abbrev pub limits_text : Parameters → List ℕ
limits_text p =
    numbered (codes "shasta_view speedup IN OUT --nodes ") p.nodes
    ++ numbered (codes " --budget ") p.budget

abbrev pub costs_text : Parameters → List ℕ
costs_text p =
    numbered (codes " --latency ") p.latency ++ (numbered (codes " --line ") p.line
    ++ numbered (codes " --handling ") p.handling)

abbrev pub files_text : Parameters → List ℕ
files_text p =
    text_if p.layout (codes " --layout FILE") ++ (text_if p.verified (codes " --verify FILE")
    ++ text_if p.no_batch (codes " --no-batch"))

abbrev pub command_text : Parameters → List ℕ
command_text p =
    codes "<p><code>" ++ (limits_text p ++ (costs_text p ++ (files_text p
    ++ codes "</code></p>\n")))

-- what messages cost, in words
abbrev pub messages_text : Parameters → List ℕ
messages_text p =
    numbered (codes "<p>A message is on its way for ") p.latency
    ++ (numbered (codes " words, and for each line of bytes that it carries for ") p.line
    ++ (numbered (codes " more; taking it costs ") p.handling ++ codes ".</p>\n"))

-- how many steps the original makes on one processor
abbrev pub base_text : Base → List ℕ
base_text Stopped = codes "<p>The original doesn't end on one processor within the budget.</p>\n"
base_text (Trapped t) =
    codes "<p>On one processor the original ends by a trap: " ++ (trap_name t ++ codes ".</p>\n")
base_text (Steps steps) =
    numbered (codes "<p>On one processor and one memory the original makes ") steps
    ++ codes " steps.</p>\n"

abbrev pub given_text : Parameters → Base → List ℕ
given_text p base = command_text p ++ (messages_text p ++ base_text base)

-- 3. The page

abbrev pub body_text : (nodes : ℕ) → (base : Option ℕ) → List Row → List ℕ
body_text nodes base rows =
    chart_text nodes base rows ++ (bars_text rows ++ (table_text base rows ++ (notes ++ end)))

-- of such rows
abbrev pub page_text : Parameters → Base → List Row → List ℕ
page_text p base rows =
    start_text p.nodes ++ (given_text p base ++ body_text p.nodes (steps_of base) rows)
