use Rattle.std.proofs.Common.{◌≡◌, ◌≤◌}
use Rattle.random_order.specs.Orders.{after_turns, how_often}
use Rattle.random_order.proofs.Order.turns_until.Given as goal

abbrev pub invariant-loop-turn : goal.invariant-loop-turn
invariant-loop-turn l = record {
  number : l.number ≡ after_turns l.turn l.initial.number;
  often : l.often ≡ how_often l.place l.count l.turn l.initial.number;
  within : l.often ≤ l.times;
}
