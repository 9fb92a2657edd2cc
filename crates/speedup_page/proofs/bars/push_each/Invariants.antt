use Rattle.std.proofs.Common.{◌≡◌, ◌+◌, ◌*◌, ◌++◌, drop}
use Rattle.speedup_page.specs.Bars.{bars_from}
use Rattle.speedup_page.proofs.bars.push_each.Given as goal

-- the texts that are to come, behind those that there are, make the whole
abbrev pub invariant-loop-row : goal.invariant-loop-row
invariant-loop-row l = record {
  text : l.out.items ++ bars_from l.y (drop l.row-index l.rows) ≡ l.initial.out.items ++ bars_from 4 l.rows;
  down : l.y ≡ 26 * l.row-index + 4;
}
