use Rattle.std.proofs.Common.{◌≡◌, length}
use Rattle.std.specs.List.{All}
use Rattle.run_record.specs.Lists.{items_of}
use Rattle.run_record.specs.Reading.{IsRead}
use Rattle.run_record.specs.Record.{AreTakesBehind}
use Rattle.run_record.specs.Rules.{Node, node_awaited}
use Rattle.run_record.specs.Text.{journal_lines}
use Rattle.run_record.proofs.read.read_journals.Given as goal

abbrev pub invariant-loop-node : goal.invariant-loop-node
invariant-loop-node l = record {
  read_so_far : IsRead (Node l.version l.nodes 0) l.fn.lines (journal_lines l.version 0 (items_of l.journals.items)) (node_awaited l.version l.nodes l.node) l.lines;
  each : length (items_of l.journals.items) ≡ l.node;
  takes : All (AreTakesBehind l.nodes 0) (items_of l.journals.items);
}
