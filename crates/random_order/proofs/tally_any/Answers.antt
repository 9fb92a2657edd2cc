use Rattle.std.proofs.Common.{◌<◌, ap, ◌∙◌, sym, arith}
use Rattle.std.proofs.Math.Nat.{mod-lt}
use Rattle.std.proofs.lemmas.List.{length-set}
use Rattle.random_order.specs.Orders.{following, choice}
use Rattle.random_order.proofs.Often.{often_few, tally_more, turns_more}
use Rattle.random_order.proofs.tally_any.Goals as goal

pub overflow_add-tally : goal.overflow_add-tally
overflow_add-tally c =
    let l = c.loop-turn in
    let among : choice c.args.count l.next < c.args.count = mod-lt _ c.requires.some in
    let is = c.choose_by.ensures in
    let most = c.requires.few in
    let low : c.choose_by.result < 16 = omega (arith, among, is, most) in
    let often = l.invariant.often c.choose_by.result low in
    let few = often_few c.choose_by.result c.args.count l._turn c.args.number in
    let turns = c.loop-turn-test.true in
    let fits = c.ranges.turns in
    omega (arith, often, few, turns, fits)

pub loop-turn-preserved : goal.loop-turn-preserved
loop-turn-preserved c =
    let l = c.loop-turn in
    let number = c.args.number in
    let more = sym (turns_more l._turn number) in
    let among : choice c.args.count l.next < c.args.count = mod-lt _ c.requires.some in
    let is = c.choose_by.ensures in
    let most = c.requires.few in
    let low : c.choose_by.result < 16 = omega (arith, among, is, most) in
    record {
      len = length-set l.tally c.choose_by.result _ ∙ l.invariant.len;
      next = l.invariant.second ∙ ap following more;
      second = c.after_two-third.ensures
          ∙ ap (λ x. following (following x)) (l.invariant.next ∙ more);
      often = tally_more l.tally c.args.count l._turn number c.choose_by.result l.invariant.len l.invariant.often
          (is ∙ ap (choice c.args.count) l.invariant.next) low;
    }
