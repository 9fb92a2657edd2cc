use Rattle.std.proofs.Common.{◌+◌, ◌≤◌, ap, ◌∙◌, sym, subst, arith}
use Rattle.random_order.specs.Orders.{following, choice}
use Rattle.random_order.proofs.Often.{often_hit, often_miss, turns_more}
use Rattle.random_order.proofs.Order.turns_until.Goals as goal
use Rattle.random_order.proofs.Order.turns_until.Goals.{then-choose_by-place+else-often-times, else-choose_by-place}

pub loop-turn-preserved : goal.loop-turn-preserved
loop-turn-preserved c =
    let l = c.loop-turn in
    let number = c.self.inside.number in
    let next = c.after-number.ensures ∙ ap following l.invariant.number in
    let is = c.choose_by.ensures ∙ ap (choice c.args.count) next in
    let within = l.invariant.within in
    let gone = next ∙ sym (turns_more l.turn number) in
    elim c.if-choose_by-place.branch [
      | then-choose_by-place+else-often-times w ↦
          (let apart = w.if-often-times.false in
          let more = w.often-is in
          record {
            number = gone;
            often = w.often-is ∙ ap (λ k. k + 1) l.invariant.often
                ∙ sym (often_hit c.args.place c.args.count l.turn number c.choose_by.result is w.if-choose_by-place.true);
            within = omega (arith, within, apart, more);
          })
      | else-choose_by-place w ↦ record {
        number = gone;
        often = w.often-is ∙ l.invariant.often
            ∙ sym (often_miss c.args.place c.args.count l.turn number c.choose_by.result is w.if-choose_by-place.false);
        within = subst (λ k. k ≤ c.args.times) (sym w.often-is) within;
      }
    ]
