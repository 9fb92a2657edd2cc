use Rattle.std.proofs.Common.{◌≡◌}
use Rattle.random_order.specs.Orders.{after_turns}
use Rattle.random_order.proofs.Turns.{turned_often}
use Rattle.random_order.proofs.Order.skip.Given as goal

abbrev pub invariant-loop-left : goal.invariant-loop-left
invariant-loop-left l =
    turned_often 4294967296 l.factor l.step l.left l.number ≡ after_turns l.turns l.initial.number

abbrev pub decreases-loop-left : goal.decreases-loop-left
decreases-loop-left l = l.left
