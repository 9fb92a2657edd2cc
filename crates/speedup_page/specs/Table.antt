-- The numbers as a table.
use Rattle.std.specs.Prelude.{ℕ, List, [], ◌∷◌, ◌++◌, Option, None, Some, codes}
use Rattle.speedup_page.specs.declared.row.Ended.{Ended}
use Rattle.speedup_page.specs.declared.row.Ended.TheVariants.{Whole, Trapped, Stopped}
use Rattle.speedup_page.specs.declared.row.Row.{Row}
use Rattle.speedup_page.specs.declared.row.Shares.{Shares}
use Rattle.speedup_page.specs.Frame.{table}
use Rattle.speedup_page.specs.Rows.{hundredths_text, numbered, share_of, speedup_of, trap_name, whole_of}

-- a speed-up, where there is one
abbrev pub some_text : Option ℕ → List ℕ
some_text None = codes "none"
some_text (Some s) = hundredths_text s

-- the speed-up of a run that ended whole, or what keeps it from one
abbrev pub ended_text : Ended → (speedup : Option ℕ) → List ℕ
ended_text Whole s = some_text s
ended_text (Trapped t) s = trap_name t
ended_text Stopped s = codes "stopped"

abbrev pub speedup_text : (base : Option ℕ) → Row → List ℕ
speedup_text base r = ended_text r.ended (speedup_of base r)

-- what was spent on one thing, and how many hundredths that is of the whole
abbrev pub cell_text : (whole part : ℕ) → List ℕ
cell_text whole part =
    numbered (codes "<td>") part ++ (numbered (codes "<small>") (share_of 100 whole part)
    ++ codes "%</small></td>")

-- those for words, and for the words of the original, as hundredths of all words; and for the rest
abbrev pub cells_text : (whole steps : ℕ) → Shares → List ℕ
cells_text whole steps s =
    cell_text whole s.words ++ (cell_text s.words steps ++ (cell_text whole s.to_read
    ++ (cell_text whole s.to_write ++ (cell_text whole s.handling ++ cell_text whole s.idle))))

abbrev pub line_text : (base : Option ℕ) → Row → List ℕ
line_text base r =
    numbered (codes "<tr><th>") r.nodes ++ (numbered (codes "</th><td>") r.time
    ++ (codes "</td><td>" ++ (speedup_text base r ++ (codes "</td>"
    ++ (cells_text (whole_of r.spent) r.steps r.spent ++ codes "</tr>\n")))))

abbrev pub lines_text : (base : Option ℕ) → List Row → List ℕ
lines_text base [] = []
lines_text base (r ∷ rs) = line_text base r ++ lines_text base rs

abbrev pub table_text : (base : Option ℕ) → List Row → List ℕ
table_text base rows =
    table ++ (lines_text base rows ++ codes "</tbody>\n</table>\n")
