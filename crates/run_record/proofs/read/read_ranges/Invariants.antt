use Rattle.std.proofs.Common.{ℕ, length}
use Rattle.std.specs.List.{All}
use Rattle.run_record.specs.Reading.{IsRead}
use Rattle.run_record.specs.Record.{IsBlockLine}
use Rattle.run_record.specs.Rules.{Range}
use Rattle.run_record.specs.Telling.{HasWords}
use Rattle.run_record.specs.Text.{block_lines}
use Rattle.run_record.specs.declared.version.Version.{Version}
use Rattle.run_record.proofs.read.read_ranges.Given as goal

abbrev pub invariant-loop-ranges : goal.invariant-loop-ranges
invariant-loop-ranges l = record {
  read_so_far : (v : Version) (nodes : ℕ) → IsRead (Range v nodes) l.fn.lines (block_lines l.ranges.items) (Range v nodes) l.lines;
  digits : All IsBlockLine l.ranges.items;
  words : All HasWords l.ranges.items;
}

abbrev pub decreases-loop-ranges : goal.decreases-loop-ranges
decreases-loop-ranges l = length l.lines.bytes
