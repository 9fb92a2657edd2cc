use Rattle.std.proofs.Common.{◌≡◌, ◌++◌, drop}
use Rattle.speedup_page.specs.Table.{lines_text}
use Rattle.speedup_page.proofs.table.push_lines.Given as goal

-- the texts that are to come, behind those that there are, make the whole
abbrev pub invariant-loop-row : goal.invariant-loop-row
invariant-loop-row l =
    l.out.items ++ lines_text l.base (drop l.row-index l.rows)
    ≡ l.initial.out.items ++ lines_text l.base l.rows
