use Rattle.std.proofs.Common.{◌*◌, ◌/◌, ◌-◌, ap, sym, ◌∙◌, arith}
use Rattle.std.proofs.Math.Nat.{div-mul-le_self, mod-eq-sub-div-mul}
use Rattle.random_order.proofs.Reciprocal.{by_reciprocal}
use Rattle.random_order.proofs.choose_by.Goals as goal

pub overflow_sub-result : goal.overflow_sub-result
overflow_sub-result c =
    let upper = c.args.number / 65536 in
    let fits = c.ranges.number in
    let is = by_reciprocal upper c.args.count c.args.reciprocal (omega (arith, fits)) c.requires.some c.requires.reciprocal in
    let whole = ap (λ k. k * c.args.count) is in
    let low = div-mul-le_self upper c.args.count in
    omega (arith, whole, low)

pub returns : goal.returns
returns c =
    let upper = c.args.number / 65536 in
    let fits = c.ranges.number in
    let is = by_reciprocal upper c.args.count c.args.reciprocal (omega (arith, fits)) c.requires.some c.requires.reciprocal in
    ap (λ k. upper - k * c.args.count) is ∙ sym (mod-eq-sub-div-mul upper c.args.count)
