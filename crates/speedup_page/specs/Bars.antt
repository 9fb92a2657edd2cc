-- Where time goes: for each number of nodes a bar of 600 pixels, which its parts share.
use Rattle.std.specs.Prelude.{ℕ, ◌+◌, ◌-◌, ◌*◌, min, List, [], ◌∷◌, ◌++◌, length, codes}
use Rattle.speedup_page.specs.declared.row.Row.{Row}
use Rattle.speedup_page.specs.declared.row.Shares.{Shares}
use Rattle.speedup_page.specs.Frame.{bars, legend}
use Rattle.speedup_page.specs.Rows.{numbered, share_of, whole_of}

-- a part of a bar that is so far down, of a kind, between two places
abbrev pub piece_text : List ℕ → (y from to : ℕ) → List ℕ
piece_text kind y from to =
    codes "<rect class='" ++ (kind ++ (numbered (codes "' x='") (88 + from)
    ++ (numbered (codes "' width='") (to - from) ++ (numbered (codes "' y='") y
    ++ codes "' height='18'/>\n"))))

-- Words: as many as there are steps are of the original, since each step is committed by one; those
-- after them are what checks add.
abbrev pub words_text : (y whole words steps : ℕ) → List ℕ
words_text y whole words steps =
    piece_text (codes "steps") y 0 (share_of 600 whole (min words steps))
    ++ piece_text (codes "checks") y (share_of 600 whole (min words steps))
    (share_of 600 whole words)

-- the parts stand side by side; each ends where what is spent on it and on those before ends
abbrev pub waits_text : (y whole before : ℕ) → Shares → List ℕ
waits_text y whole before s =
    piece_text (codes "reads") y (share_of 600 whole before)
    (share_of 600 whole (before + s.to_read))
    ++ piece_text (codes "writes") y (share_of 600 whole (before + s.to_read))
    (share_of 600 whole (before + s.to_read + s.to_write))

abbrev pub rest_text : (y whole before : ℕ) → Shares → List ℕ
rest_text y whole before s =
    piece_text (codes "handles") y (share_of 600 whole before)
    (share_of 600 whole (before + s.handling))
    ++ piece_text (codes "idles") y (share_of 600 whole (before + s.handling)) 600

abbrev pub pieces_text : (y whole steps : ℕ) → Shares → List ℕ
pieces_text y whole steps s =
    words_text y whole s.words steps
    ++ (waits_text y whole s.words s
    ++ rest_text y whole (s.words + s.to_read + s.to_write) s)

-- how many nodes, and the bar
abbrev pub bar_text : (y : ℕ) → Row → List ℕ
bar_text y r =
    numbered (codes "<text class='scale' x='80' y='") (y + 9) ++ (numbered (codes "'>") r.nodes
    ++ (codes "</text>\n" ++ pieces_text y (whole_of r.spent) r.steps r.spent))

-- one below the other, from so far down on
abbrev pub bars_from : (y : ℕ) → List Row → List ℕ
bars_from y [] = []
bars_from y (r ∷ rs) = bar_text y r ++ bars_from (y + 26) rs

abbrev pub bars_text : List Row → List ℕ
bars_text rows =
    numbered bars (26 * length rows) ++ (codes "'>\n" ++ (bars_from 4 rows
    ++ (codes "</svg>\n" ++ legend)))
