-- The chart of the speed-up by the number of nodes: 640 pixels across, and 320 down.
use Rattle.std.specs.Prelude.{ℕ, ◌+◌, ◌-◌, ◌*◌, ◌/◌, max, min, nat_le, if◌then◌else◌, List, [], ◌∷◌, ◌++◌, Option, None, Some, codes}
use Rattle.speedup_page.specs.declared.row.Row.{Row}
use Rattle.speedup_page.specs.Frame.{chart}
use Rattle.speedup_page.specs.Rows.{hundredths_text, numbered, speedup_of}

-- 1. Where things are

-- the room that a speed-up in hundredths wants: the least of 1, 2, 4, 8 and 16 times as fast that
-- it isn't above, and 16 at the most
abbrev pub room_for : Option ℕ → ℕ
room_for None = 1
room_for (Some s) =
    if nat_le s 100 then 1
    else if nat_le s 200 then 2
    else if nat_le s 400 then 4
    else if nat_le s 800 then 8
    else 16

-- the most that rows want, beside so much
abbrev pub room_beside : (room : ℕ) → (base : Option ℕ) → List Row → ℕ
room_beside room base [] = room
room_beside room base (r ∷ rs) = room_beside (max room (room_for (speedup_of base r))) base rs

abbrev pub room_of : (base : Option ℕ) → List Row → ℕ
room_of base rows = room_beside 1 base rows

-- how far from the left so many nodes are, of the most, and how far down a speed-up
abbrev pub across : (most nodes : ℕ) → ℕ
across most nodes = 56 + 640 * nodes / most

abbrev pub down : (room s : ℕ) → ℕ
down room s = 336 - min 320 (320 * s / (100 * room))

-- 2. What is drawn

-- a line for so many quarters of the room, with the speed-up there
abbrev pub quarter_text : (room quarters : ℕ) → List ℕ
quarter_text room quarters =
    numbered (codes "<path class='grid' d='M56 ") (336 - 80 * quarters)
    ++ (numbered (codes "H696'/><text class='scale' x='50' y='") (336 - 80 * quarters)
    ++ (codes "'>" ++ (hundredths_text (25 * room * quarters) ++ codes "</text>\n")))

abbrev pub grid_text : (room : ℕ) → List ℕ
grid_text room =
    quarter_text room 0 ++ (quarter_text room 1 ++ (quarter_text room 2
    ++ (quarter_text room 3 ++ quarter_text room 4)))

-- the line on which so many nodes are so many times as fast, to here
abbrev pub ideal_to : (x y : ℕ) → List ℕ
ideal_to x y =
    numbered (codes "<path class='ideal' d='M56 336L") x ++ (numbered (codes " ") y
    ++ (numbered (codes "'/><text class='scale' x='") (x - 8) ++ (numbered (codes "' y='") y
    ++ codes "'>ideal</text>\n")))

-- as far as there is room and nodes
abbrev pub ideal_text : (most room : ℕ) → List ℕ
ideal_text most room =
    ideal_to (across most (min most room)) (down room (100 * min most room))

-- where a row's speed-up is, as the line has it
abbrev pub corner_text : (most room nodes : ℕ) → Option ℕ → List ℕ
corner_text most room nodes None = []
corner_text most room nodes (Some s) =
    numbered (codes " ") (across most nodes) ++ numbered (codes ",") (down room s)

abbrev pub corners_text : (most room : ℕ) → (base : Option ℕ) → List Row → List ℕ
corners_text most room base [] = []
corners_text most room base (r ∷ rs) =
    corner_text most room r.nodes (speedup_of base r) ++ corners_text most room base rs

abbrev pub line_text : (most room : ℕ) → (base : Option ℕ) → List Row → List ℕ
line_text most room base rows =
    codes "<polyline class='line' points='" ++ (corners_text most room base rows
    ++ codes "'/>\n")

-- the number of a mark stands below it, or above it where it would meet the numbers of nodes
abbrev pub beside : (y : ℕ) → ℕ
beside y = if nat_le y 316 then y + 13 else y - 11

-- the mark of a speed-up, with its number
abbrev pub mark_at : (x y s : ℕ) → List ℕ
mark_at x y s =
    numbered (codes "<circle class='mark' r='4' cx='") x ++ (numbered (codes "' cy='") y
    ++ (numbered (codes "'/><text class='value' x='") (x + 7)
    ++ (numbered (codes "' y='") (beside y) ++ (codes "'>" ++ (hundredths_text s
    ++ codes "</text>\n")))))

abbrev pub mark_text : (most room nodes : ℕ) → Option ℕ → List ℕ
mark_text most room nodes None = []
mark_text most room nodes (Some s) = mark_at (across most nodes) (down room s) s

-- how many nodes a row has, below the chart
abbrev pub nodes_text : (most nodes : ℕ) → List ℕ
nodes_text most nodes =
    numbered (codes "<text class='node' x='") (across most nodes)
    ++ (numbered (codes "' y='350'>") nodes ++ codes "</text>\n")

-- what is drawn of a row apart from the line
abbrev pub row_text : (most room : ℕ) → (base : Option ℕ) → Row → List ℕ
row_text most room base r =
    nodes_text most r.nodes ++ mark_text most room r.nodes (speedup_of base r)

abbrev pub rows_text : (most room : ℕ) → (base : Option ℕ) → List Row → List ℕ
rows_text most room base [] = []
rows_text most room base (r ∷ rs) = row_text most room base r ++ rows_text most room base rs

abbrev pub drawn_text : (most room : ℕ) → (base : Option ℕ) → List Row → List ℕ
drawn_text most room base rows =
    grid_text room ++ (ideal_text most room ++ (line_text most room base rows
    ++ rows_text most room base rows))

abbrev pub chart_text : (most : ℕ) → (base : Option ℕ) → List Row → List ℕ
chart_text most base rows =
    chart ++ (drawn_text most (room_of base rows) base rows ++ codes "</svg>\n")
