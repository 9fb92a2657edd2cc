-- Helps the code alone: ranges of lines as those of a memory of lines.
use Rattle.std.specs.Prelude.{List, map}
use Rattle.block_layout.specs.declared.ranges.Lines.{Lines}
use Rattle.byte_range.specs.declared.lines.LineRange.{LineRange}

abbrev pub line_range : Lines → LineRange
line_range r = record { first = r.first; count = r.lines }

abbrev pub line_ranges : List Lines → List LineRange
line_ranges ranges = map line_range ranges
