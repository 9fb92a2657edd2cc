use Rattle.std.proofs.Common.{◌+◌, ◌^◌, ◌<◌}
use Rattle.node_memory.proofs.ShelfLemmas.{FirstOf}
use Rattle.node_memory.proofs.memory.first_lines.Given as goal

abbrev pub invariant-loop-block : goal.invariant-loop-block
invariant-loop-block l = record {
  first : FirstOf l.layout l.first l.lines;
  low : l.first < 2 ^ 26;
  few : l.lines < 2 ^ 25 + 64;
}
