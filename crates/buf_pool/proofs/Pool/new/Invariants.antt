use Rattle.std.proofs.Common.{◌≡◌, ◌≤◌, length}
use Rattle.std.specs.Prelude.{All}
use Rattle.std.specs.Vec.{vec_capacity}
use Rattle.buf_pool.specs.Pool.{Buffer, empty_buffer}
use Rattle.buf_pool.proofs.Pool.new.Given as goal

abbrev pub invariant-loop-slot : goal.invariant-loop-slot
invariant-loop-slot l = record {
  len : length l.free.items ≡ l._slot;
  capacity : l.slots ≤ vec_capacity l.free;
  empty : All (λ (b : Buffer). b ≡ empty_buffer l.bytes) l.free.items;
}
