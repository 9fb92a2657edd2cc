use Rattle.std.proofs.Common.{◌≡◌, ◌++◌, drop}
use Rattle.check_costs.specs.Text.{row_lines}
use Rattle.check_costs.proofs.table.push_rows.Given as goal

-- the lines that are to come, behind those that there are, make the whole
abbrev pub invariant-loop-row : goal.invariant-loop-row
invariant-loop-row l =
    l.out.items ++ row_lines l.symbols (drop l.row-index l.rows)
    ≡ l.initial.out.items ++ row_lines l.symbols l.rows
