use Rattle.std.proofs.Common.{◌≡◌, None, Some, ◌∙◌, arith}
use Rattle.run_record.proofs.Digits.{place_is, long_place}
use Rattle.run_record.proofs.line.place_then.Goals as goal

pub returns-then-place-lt-ADDRESS_DIGITS-clause-only : goal.returns-then-place-lt-ADDRESS_DIGITS-clause-only
returns-then-place-lt-ADDRESS_DIGITS-clause-only c = λ n rest h.
    omega (arith, c.if-place-lt-ADDRESS_DIGITS.true, long_place c.in_ok-place.place.now rest n (c.in_ok-place.ensures.only _ h.text_is))

pub returns-in_err-address-clause-only : goal.returns-in_err-address-clause-only
returns-in_err-address-clause-only c = λ n rest h.
    let parts = place_is c.in_ok-place.place.now c.split_at.result.0.now rest n (c.in_ok-place.ensures.only _ h.text_is) c.split_at.ensures.front in
    let t : None ≡ Some n = c.in_err-address.ensures.only n h.low parts.0 in
    absurd (cc)

pub returns-clause-only : goal.returns-clause-only
returns-clause-only c = λ n rest h.
    let parts = place_is c.in_ok-place.place.now c.split_at.result.0.now rest n (c.in_ok-place.ensures.only _ h.text_is) c.split_at.ensures.front in
    let t : Some c.in_ok-address.address ≡ Some n = c.in_ok-address.ensures.only n h.low parts.0 in
    (cc, c.split_at.ensures.back ∙ parts.1)
