use Rattle.std.proofs.Common.{◌≡◌, ◌++◌, ◌+◌, ◌≤◌, map, take, length}
use Rattle.std.specs.Vec.{vec_capacity}
use Rattle.dsm_core.specs.Printing.{printed_of}
use Rattle.dsm_core.proofs.outcome.add.Given as goal

abbrev pub invariant-loop-index : goal.invariant-loop-index
invariant-loop-index l = record {
  items : l.printed.items ≡ l.fn.printed.items ++ map (printed_of l.node) (take l.index l.output);
  room : length l.printed.items + length l.output ≤ vec_capacity l.printed + l.index;
}
