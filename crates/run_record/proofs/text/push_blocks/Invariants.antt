use Rattle.std.proofs.Common.{◌≡◌, ◌++◌, drop}
use Rattle.run_record.specs.Text.{block_lines}
use Rattle.run_record.proofs.text.push_blocks.Given as goal

-- the lines that are to come, behind those that there are, make the whole
abbrev pub invariant-loop-range : goal.invariant-loop-range
invariant-loop-range l =
    l.text.items ++ block_lines (drop l.range-index l.ranges)
    ≡ l.initial.text.items ++ block_lines l.ranges
