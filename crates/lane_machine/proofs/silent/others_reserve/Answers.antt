-- One lane more has reserved nothing.
use Rattle.std.proofs.Common.{◌<◌, ◌∙◌, ap, inl, inr, length, None, arith}
use Rattle.std.proofs.lemmas.Bool.Decides.{eqb_tells}
use Rattle.lane_machine.specs.Places.{reserved_in}
use Rattle.lane_machine.proofs.ClearLemmas.{reserved_at}
use Rattle.lane_machine.proofs.silent.others_reserve.Goals as goal

pub loop-k-preserved : goal.loop-k-preserved
loop-k-preserved c = λ j below other.
    let ps = c.args.places.now in
    let k = c.loop-k.k in
    let test = c.loop-k-test.true in
    let low : k < length ps = omega (arith, test) in
    elim (eqb_tells j k) [
      | inl e ↦ ap (reserved_in ps) e.1
          ∙ reserved_at ps k c.index-places-k.result c.index-places-k.is low None
          ∙ c.reserves_beside.ensures c.if-reserves_beside.false (λ is. other (e.1 ∙ is))
      | inr e ↦ c.loop-k.invariant j (let f = e.1 in omega (arith, f, below)) other
    ]
