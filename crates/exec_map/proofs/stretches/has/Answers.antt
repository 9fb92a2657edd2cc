use Rattle.std.proofs.Common.{length, sym, ap, ◌∙◌, arith}
use Rattle.std.specs.Prelude.{nat_le}
use Rattle.std.proofs.lemmas.Bool.{ltb-true, ltb-false}
use Rattle.exec_map.proofs.Halving.{have_at, have_none}
use Rattle.exec_map.proofs.stretches.has.Goals as goal

pub returns-in-Some : goal.returns-in-Some
returns-in-Some c =
    let xs = c.args.stretches.now in
    let n = c.args.number in
    let lt = ltb-true c.ended-place.result (length xs) (sym c.in-Some.ensures.lookup.0) in
    ap (λ r. nat_le r.first n) c.in-Some.ensures.lookup.1 ∙ have_at xs n c.ended-place.result c.in-Some.r.now c.requires c.ended-place.ensures.ended c.ended-place.ensures.ahead lt

pub returns-in-None : goal.returns-in-None
returns-in-None c =
    let xs = c.args.stretches.now in
    let le = ltb-false c.ended-place.result (length xs) (sym c.in-None.ensures.lookup.0) in
    sym (have_none xs c.args.number c.ended-place.result (record { first = 0; end = 0 }) c.requires c.ended-place.ensures.ended (λ lt. absurd (omega arith)))
