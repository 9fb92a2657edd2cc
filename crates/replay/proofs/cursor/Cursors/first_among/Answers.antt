-- One node more.
use Rattle.std.proofs.Common.{◌≡◌, ◌-◌, Some, ap, sym, ◌∙◌, subst, arith}
use Rattle.replay.specs.declared.cursor.First.{First}
use Rattle.replay.specs.Way.{IsFirstBelow}
use Rattle.replay.proofs.Cursors.{first_without, first_still, first_now}
use Rattle.replay.proofs.cursor.Cursors.first_among.Goals as goal

pub returns-in_default : goal.returns-in_default
returns-in_default c =
    first_without c.args.self.now c.args.node c.args.first c.requires.first c.in_default.ensures

pub returns-in-Some-first : goal.returns-in-Some-first
returns-in-Some-first c =
    let w = c.args.self.now in
    let x = c.in-Some-first.before in
    let h = subst (λ o. IsFirstBelow w c.args.node o) c.in-Some-first.is c.requires.first in
    let le = c.if-before-stamp.true in
    let least = c.min.ensures in
    let some = h.some in
    first_still w c.args.node x c.in-Some.stamp c.min.result h c.in-Some.ensures
    (omega (arith, le, least, some)) (omega (arith, least)) (omega (arith, least))

pub returns-in-Some-2 : goal.returns-in-Some-2
returns-in-Some-2 c =
    let w = c.args.self.now in
    let x = c.in-Some-2.before in
    let h = subst (λ o. IsFirstBelow w c.args.node o) c.in-Some-2.is c.requires.first in
    let lt = c.if-before-stamp.false in
    let both : Some c.in-Some-first.before ≡ Some x = sym c.in-Some-first.is ∙ c.in-Some-2.is in
    let one : c.in-Some-first.before ≡ x = cc in
    let same = ap (λ (z : First). z.stamp) one in
    first_now w c.args.node x c.in-Some.stamp (x.stamp - 1) h c.in-Some.ensures
    (omega (arith, lt, same)) (omega (arith, lt, same))
