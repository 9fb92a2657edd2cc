use Rattle.std.proofs.Common.{◌≡◌, map, take}
use Rattle.exec_map.specs.Ranges.{line_range}
use Rattle.exec_map.proofs.LineLemmas.{bytes_of}
use Rattle.exec_map.proofs.first_memory.memory_of.Given as goal

abbrev pub invariant-loop-lines : goal.invariant-loop-lines
invariant-loop-lines l = record {
  ranges : l.pieces.items ≡ map line_range (take l.lines-index l.ranges);
  bytes : l.bytes.items ≡ bytes_of l.program (take l.lines-index l.ranges);
}
