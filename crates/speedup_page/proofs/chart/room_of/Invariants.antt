use Rattle.std.proofs.Common.{◌≡◌, ◌≤◌, drop}
use Rattle.speedup_page.specs.Chart.{room_beside}
use Rattle.speedup_page.proofs.chart.room_of.Given as goal

-- what the rows want that are to come, beside the room that there is, is the whole
abbrev pub invariant-loop-row : goal.invariant-loop-row
invariant-loop-row l = record {
  value : room_beside l.room l.base (drop l.row-index l.rows) ≡ room_beside 1 l.base l.rows;
  some : 1 ≤ l.room;
  most : l.room ≤ 16;
}
