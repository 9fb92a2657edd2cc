use Rattle.std.proofs.Common.{◌≡◌, ◌≤◌, None, replicate}
use Rattle.std.specs.VecDeque.{deque_capacity}
use Rattle.lossy_link.proofs.receiver.Receiver.new.Given as goal

abbrev pub invariant-loop-place : goal.invariant-loop-place
invariant-loop-place g l = record {
  empty : l.places.items ≡ replicate l._place None;
  room : l.window ≤ deque_capacity l.places;
}
