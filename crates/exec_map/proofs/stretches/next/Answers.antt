use Rattle.std.proofs.Common.{◌≡◌, ◌<◌, ◌≤◌, length, get_or, sym, ap, ◌∙◌, ◌%◌, arith}
use Rattle.std.proofs.lemmas.Bool.{ltb-true, ltb-false}
use Rattle.exec_map.proofs.Merging.{max_whole}
use Rattle.exec_map.proofs.Halving.{have_here, have_none}
use Rattle.exec_map.proofs.stretches.next.Goals as goal

pub returns-in_err-r-clause-none : goal.returns-in_err-r-clause-none
returns-in_err-r-clause-none c =
    let le = ltb-false c.ended-place.result (length c.args.stretches.now) (sym c.in_err-r.ensures.lookup.0) in
    rw c.from_residual.ensures
    (λ m from. have_none c.args.stretches.now m c.ended-place.result (record { first = 0; end = 0 }) c.requires (λ k d low high. let h = c.ended-place.ensures.ended k d low high in omega arith) (λ lt. absurd (omega arith)))

pub returns-clause-some : goal.returns-clause-some
returns-clause-some c =
    let xs = c.args.stretches.now in
    let p = c.ended-place.result in
    let r = c.in_ok-r.r.now in
    let lt = ltb-true p (length xs) (sym c.in_ok-r.ensures.lookup.0) in
    let is : r ≡ get_or xs p r = c.in_ok-r.ensures.lookup.1 in
    let first : r.first ≡ (get_or xs p r).first = ap (λ s. s.first) is in
    let some : (get_or xs p r).first < (get_or xs p r).end = c.requires.some p r lt in
    let ahead : c.args.from < (get_or xs p r).end = c.ended-place.ensures.ahead p r (omega arith) lt in
    have_here xs c.max.result p r lt (omega (arith, c.max.ensures)) (omega (arith, c.max.ensures))

pub returns-clause-least : goal.returns-clause-least
returns-clause-least c = λ m from less.
    let xs = c.args.stretches.now in
    let p = c.ended-place.result in
    let r = c.in_ok-r.r.now in
    let first : r.first ≡ (get_or xs p r).first = ap (λ s. s.first) c.in_ok-r.ensures.lookup.1 in
    have_none xs m p r c.requires (λ k d low high. let h = c.ended-place.ensures.ended k d low high in omega arith) (λ lt. omega (arith, c.max.ensures))

pub returns-clause-whole : goal.returns-clause-whole
returns-clause-whole c = λ aligned whole.
    let xs = c.args.stretches.now in
    let p = c.ended-place.result in
    let r = c.in_ok-r.r.now in
    let lt = ltb-true p (length xs) (sym c.in_ok-r.ensures.lookup.0) in
    let first : r.first ≡ (get_or xs p r).first = ap (λ s. s.first) c.in_ok-r.ensures.lookup.1 in
    let at = whole p r lt in
    rw c.max.ensures (max_whole c.args.from r.first aligned (ap (λ n. n % 4) first ∙ at.0))

pub returns-clause-low : goal.returns-clause-low
returns-clause-low c = λ end low.
    let xs = c.args.stretches.now in
    let p = c.ended-place.result in
    let r = c.in_ok-r.r.now in
    let lt = ltb-true p (length xs) (sym c.in_ok-r.ensures.lookup.0) in
    let first : r.first ≡ (get_or xs p r).first = ap (λ s. s.first) c.in_ok-r.ensures.lookup.1 in
    let some : (get_or xs p r).first < (get_or xs p r).end = c.requires.some p r lt in
    let ahead : c.args.from < (get_or xs p r).end = c.ended-place.ensures.ahead p r (omega arith) lt in
    let at : (get_or xs p r).end ≤ end = low p r lt in
    omega (arith, c.max.ensures)
