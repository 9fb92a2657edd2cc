use Rattle.std.proofs.Common.{take}
use Rattle.std.specs.Prelude.{All}
use Rattle.command_line.specs.Views.{time_of}
use Rattle.judged_files.specs.Given.{bytes_of}
use Rattle.speedup_page.specs.Rows.{IsFit}
use Rattle.views.specs.Speedup.{AreRowsOf}
use Rattle.views.specs.Time.{costs_of}
use Rattle.views.proofs.speedup.rows_of.Given as goal

-- there is a row for each number so far
abbrev pub invariant-loop-nodes : goal.invariant-loop-nodes
invariant-loop-nodes l = record {
  rows : AreRowsOf (bytes_of l.inputs) l.arguments.budget (costs_of (time_of l.arguments))
      (take l.nodes-index l.counts) l.rows.items;
  fit : All IsFit l.rows.items;
}
