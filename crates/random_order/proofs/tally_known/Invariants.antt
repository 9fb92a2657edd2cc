use Rattle.std.proofs.Common.{◌≡◌, ◌<◌, ℕ, slice_index_or, length}
use Rattle.random_order.specs.Orders.{following, after_turns, how_often}
use Rattle.random_order.proofs.tally_known.Given as goal

abbrev pub invariant-loop-turn : goal.invariant-loop-turn
invariant-loop-turn l = record {
  len : length l.tally ≡ 16;
  next : l.next ≡ following (after_turns l._turn l.fn.number);
  second : l.second ≡ following (following (after_turns l._turn l.fn.number));
  often : (place : ℕ) → place < 16
      → slice_index_or l.tally place 0 ≡ how_often place l.count l._turn l.fn.number;
}
