use Rattle.std.proofs.Common.{◌≡◌, length}
use Rattle.jump_map.specs.Decoding.{AreMicros}
use Rattle.jump_map.proofs.micros.decode_cells.Given as goal

abbrev pub invariant-loop-k : goal.invariant-loop-k
invariant-loop-k l = record {
  count : length l.micros.items ≡ l.k;
  are : AreMicros l.cells l.micros.items;
}
