-- The table of the blocks that events of the page are about.
use Rattle.std.specs.Prelude.{ℕ, ◌+◌, ◌-◌, ◌*◌, ◌==◌, Bool, false, ◌&&◌, nat_lt, if◌then◌else◌, List, [], ◌++◌, Option, codes}
use Rattle.std.specs.Fmt.{decimal}
use Rattle.std.specs.Option.{option_map_or}
use Rattle.std.specs.List.{flat_map}
use Rattle.block_layout.specs.Layout.{Shape, blocks, first_line, lines, home}
use Rattle.page_events.specs.event_text.Parts.{address_text}
use Rattle.page_events.specs.run_trace.Traced.{Traced}
use Rattle.page_events.specs.declared.sought.Sought.TheVariants.{About, MissOf, TakeOf}
use Rattle.page_events.specs.Sought.{first_block, other_block, row_of, count_of}
use Rattle.page_events.specs.Places.{own_row}

-- the first and the last address of a block; a line has 64 bytes
abbrev pub range_text : Shape → (b : ℕ) → List ℕ
range_text layout b =
    address_text (64 * first_line layout b) ++ (codes " to "
    ++ address_text (64 * (first_line layout b + (lines layout b - 1)) + 63))

abbrev pub cell_text : ℕ → List ℕ
cell_text n = codes "<td>" ++ (decimal n ++ codes "</td>")

abbrev pub addresses_text : Shape → (b : ℕ) → List ℕ
addresses_text layout b = codes "<td>" ++ (range_text layout b ++ codes "</td>")

-- the block, its addresses and home, its misses, and the messages about it that were taken
abbrev pub row_text : Shape → List Traced → (b : ℕ) → List ℕ
row_text layout events b =
    codes "<tr>" ++ (cell_text b ++ (addresses_text layout b ++ (cell_text (home layout b)
    ++ (cell_text (count_of events (MissOf b)) ++ (cell_text (count_of events (TakeOf b))
    ++ codes "</tr>\n")))))

abbrev pub is_same_row : Option ℕ → Option ℕ → Bool
is_same_row row own = option_map_or (λ r. option_map_or (λ o. r == o) own false) row false

-- this is the first event of the page about a block
abbrev pub is_first_about : List Traced → Traced → (b : ℕ) → Bool
is_first_about events x b = is_same_row (row_of events (About b)) (own_row events x)

abbrev pub row_text_of : Shape → List Traced → Traced → (b : ℕ) → List ℕ
row_text_of layout events x b =
    if nat_lt b (blocks layout) && is_first_about events x b then row_text layout events b else []

abbrev pub row_text_if : Shape → List Traced → Traced → Option ℕ → List ℕ
row_text_if layout events x block = option_map_or (row_text_of layout events x) block []

-- the rows of the blocks that an event is the first about
abbrev pub rows_of : Shape → List Traced → Traced → List ℕ
rows_of layout events x =
    row_text_if layout events x (first_block x.what)
    ++ row_text_if layout events x (other_block x.what)

abbrev pub rows_text : Shape → List Traced → List ℕ
rows_text layout events = flat_map (rows_of layout events) events
