-- Where things are drawn, in pixels: a line down the page for each node, a row for each event.
use Rattle.std.specs.Prelude.{ℕ, ◌+◌, ◌*◌, ◌/◌, List, ◌++◌, length, Option, None, Some, codes}
use Rattle.std.specs.Fmt.{decimal}
use Rattle.event_text.specs.run_trace.Traced.{Traced}
use Rattle.page_events.specs.declared.places.Spot.{Spot}
use Rattle.page_events.specs.declared.sought.Sought.TheVariants.{Event}
use Rattle.page_events.specs.Sought.{row_of}

-- the nodes share 336 pixels; the line of each is in the middle of its part
abbrev pub line_of : (nodes node : ℕ) → ℕ
line_of nodes node = 48 + 336 / nodes * node + 336 / nodes / 2

-- a row has 18 pixels
abbrev pub down_to_row : ℕ → ℕ
down_to_row row = 18 * row + 18

-- what was before the page comes from the upper edge
abbrev pub down_from : Option ℕ → ℕ
down_from None = 0
down_from (Some row) = down_to_row row

abbrev pub lower_edge : List Traced → ℕ
lower_edge events = down_to_row (length events)

-- what is after the page goes to the lower edge
abbrev pub down_to : List Traced → Option ℕ → ℕ
down_to events None = lower_edge events
down_to events (Some row) = down_to_row row

-- the row of an event
abbrev pub own_row : List Traced → Traced → Option ℕ
own_row events x = row_of events (Event x.node x.stamp)

-- where a node is at an event of its own
abbrev pub spot_of : (nodes : ℕ) → List Traced → Traced → Spot
spot_of nodes events x = record { x = line_of nodes x.node; y = down_from (own_row events x) }

-- as a path has it, and as attributes
abbrev pub spot_text : Spot → List ℕ
spot_text s = decimal s.x ++ (codes " " ++ decimal s.y)

abbrev pub at_text : Spot → List ℕ
at_text s =
    codes " x='" ++ (decimal s.x ++ (codes "' y='" ++ (decimal s.y ++ codes "'")))
