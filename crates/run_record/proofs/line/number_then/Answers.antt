use Rattle.std.proofs.Common.{◌≡◌, None, Some, refl, ◌∙◌}
use Rattle.run_record.proofs.Digits.{no_space, split_is, split_then}
use Rattle.run_record.proofs.line.number_then.Goals as goal

pub returns-in_err-end-clause-only : goal.returns-in_err-end-clause-only
returns-in_err-end-clause-only c = λ n rest h.
    absurd (no_space c.in_ok-spaced.spaced.now rest n h.behind h.low (c.in_ok-spaced.ensures.only _ h.text_is) h.rest_is c.in_err-end.ensures)

pub returns-in_err-number-clause-only : goal.returns-in_err-number-clause-only
returns-in_err-number-clause-only c = λ n rest h.
    let parts = split_is c.in_ok-spaced.spaced.now c.split_at.result.0.now rest n c.in_ok-end.end h.behind h.low (c.in_ok-spaced.ensures.only _ h.text_is) h.rest_is c.in_ok-end.ensures c.split_at.ensures.front refl in
    let t : None ≡ Some n = c.in_err-number.ensures.only n h.low parts.0 in
    absurd (cc)

pub returns-clause-some : goal.returns-clause-some
returns-clause-some c =
    split_then c.args.text.now c.args.word.now c.in_ok-spaced.spaced.now c.split_at.result.0.now c.split_at.result.1.now c.in_ok-number.number c.in_ok-end.end c.in_ok-spaced.ensures.some c.in_ok-end.ensures c.split_at.ensures.front c.split_at.ensures.back c.in_ok-number.ensures.some.0 c.in_ok-number.ensures.some.1

pub returns-clause-only : goal.returns-clause-only
returns-clause-only c = λ n rest h.
    let parts = split_is c.in_ok-spaced.spaced.now c.split_at.result.0.now rest n c.in_ok-end.end h.behind h.low (c.in_ok-spaced.ensures.only _ h.text_is) h.rest_is c.in_ok-end.ensures c.split_at.ensures.front refl in
    let t : Some c.in_ok-number.number ≡ Some n = c.in_ok-number.ensures.only n h.low parts.0 in
    (cc, c.split_at.ensures.back ∙ parts.1)
