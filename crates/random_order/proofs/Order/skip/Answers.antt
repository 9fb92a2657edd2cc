use Rattle.std.proofs.Common.{◌≡◌, ℕ, ◌%◌, ◌/◌, ◌*◌, ◌+◌, ◌∙◌, sym, ap, arith}
use Rattle.std.proofs.Math.Nat.{mod-add-mod}
use Rattle.random_order.specs.Orders.{after_turns}
use Rattle.random_order.proofs.Turns.{even_turns, odd_turns, order_turns, turned_often, factor_twice, step_twice}
use Rattle.random_order.proofs.Order.skip.Goals as goal
use Rattle.random_order.proofs.Order.skip.Goals.{then-left-eq1, else-left-eq1}

pub loop-left-init : goal.loop-left-init
loop-left-init c = order_turns c.args.turns c.self.inside.number

pub loop-left-preserved : goal.loop-left-preserved
loop-left-preserved c =
    let m : ℕ = 4294967296 in
    let l = c.loop-left in
    let on = turned_often m (factor_twice m l.factor) (step_twice m l.factor l.step) (l.left / 2) in
    elim c.if-left-eq1.branch [
      | then-left-eq1 w ↦
          (let around : l.number * l.factor + l.step ≡ l.factor * l.number + l.step = omega arith in
          let number = w.number-is ∙ mod-add-mod (l.number * l.factor) m l.step ∙ ap (λ k. k % m) around in
          ap on number ∙ sym (odd_turns m l.factor l.step l.left l.number w.if-left-eq1.true) ∙ l.invariant)
      | else-left-eq1 w ↦
          (let even : l.left % 2 ≡ 0 = omega (arith, w.if-left-eq1.false) in
          ap on w.number-is ∙ sym (even_turns m l.factor l.step l.left l.number even) ∙ l.invariant)
    ]

pub returns : goal.returns
returns c =
    let l = c.loop-left in
    let none : l.left ≡ 0 = omega (arith, c.loop-left-test.false) in
    let done = ap (λ k. turned_often 4294967296 l.factor l.step k l.number) (sym none) in
    record { goes_on = done ∙ l.invariant ∙ ap (after_turns c.args.turns) c.self.view_is }
