use Rattle.std.proofs.Common.{◌≡◌, ℕ, ◌<◌, ◌^◌, length}
use Rattle.run_record.specs.Reading.{IsRead}
use Rattle.run_record.specs.Record.{AreTakesBehind}
use Rattle.run_record.specs.Rules.{Take}
use Rattle.run_record.specs.Text.{take_lines}
use Rattle.run_record.proofs.Growing.{last_stamp}
use Rattle.run_record.proofs.read.read_takes.Given as goal

abbrev pub invariant-loop-takes : goal.invariant-loop-takes
invariant-loop-takes l = record {
  read_so_far : (node : ℕ) → IsRead (Take l.version l.nodes node 0) l.fn.lines (take_lines l.version 0 l.takes.items) (Take l.version l.nodes node l.last) l.lines;
  behind : AreTakesBehind l.nodes 0 l.takes.items;
  last : l.last ≡ last_stamp 0 l.takes.items;
  low : l.last < 2 ^ 63;
}

abbrev pub decreases-loop-takes : goal.decreases-loop-takes
decreases-loop-takes l = length l.lines.bytes
