use Rattle.std.proofs.Common.{◌≡◌, ◌++◌, drop}
use Rattle.speedup_page.specs.Chart.{rows_text}
use Rattle.speedup_page.proofs.chart.push_rows.Given as goal

-- the texts that are to come, behind those that there are, make the whole
abbrev pub invariant-loop-row : goal.invariant-loop-row
invariant-loop-row l =
    l.out.items ++ rows_text l.most l.room l.base (drop l.row-index l.rows)
    ≡ l.initial.out.items ++ rows_text l.most l.room l.base l.rows
