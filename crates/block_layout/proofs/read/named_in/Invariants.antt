use Rattle.std.proofs.Common.{◌+◌, ◌≤◌, length}
use Rattle.block_layout.specs.Reading.{IsReadUpTo, lines_left, bytes_left}
use Rattle.block_layout.proofs.read.named_in.Given as goal

abbrev pub invariant-loop-rest : goal.invariant-loop-rest
invariant-loop-rest l = record {
  read_so_far : IsReadUpTo l.text l.shared l.nodes l.named (lines_left l.rest) l.number;
  short : l.number + bytes_left l.rest ≤ length l.text + 1;
}

abbrev pub decreases-loop-rest : goal.decreases-loop-rest
decreases-loop-rest l = bytes_left l.rest
