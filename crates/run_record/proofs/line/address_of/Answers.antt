use Rattle.std.proofs.Common.{◌≡◌, ◌<◌, ◌+◌, ◌^◌, ◌++◌, ◌∷◌, [], get_or, take, None, Some, refl, sym, ap, ◌∙◌, arith}
use Rattle.std.proofs.lemmas.List.{take_more, take_all}
use Rattle.rv32_text.specs.Listing.{word_digits}
use Rattle.run_record.proofs.Digits.{last_digits, one_more, eight_digits, word_byte, low_address, more_power}
use Rattle.run_record.proofs.Fields.{same_address}
use Rattle.run_record.proofs.line.address_of.Goals as goal

pub overflow_mul-address : goal.overflow_mul-address
overflow_mul-address c =
    let low : c.loop-digit.address < 16 ^ 7 = low_address c.loop-digit.address c.loop-digit.digit-index c.loop-digit.invariant.small (omega arith) in
    omega arith

pub returns-in_err-address-clause-only : goal.returns-in_err-address-clause-only
returns-in_err-address-clause-only c = λ n low e.
    let v = word_byte n c.loop-digit.digit-index (omega arith) in
    let t : None ≡ Some v.0 = c.in_err-address.ensures.only v.0 v.1 (ap (λ ds. get_or ds c.loop-digit.digit-index 0) e ∙ v.2) in
    absurd (cc)

pub loop-digit-preserved : goal.loop-digit-preserved
loop-digit-preserved c = record {
  small = more_power c.loop-digit.address c.loop-digit.digit-index c.in_ok-address.field-0 c.loop-digit.invariant.small c.in_ok-address.ensures.some.0;
  so_far =
      take_more c.args.digits.now c.loop-digit.digit-index 0 (omega arith)
      ∙ ap (λ t. t ++ get_or c.args.digits.now c.loop-digit.digit-index 0 ∷ []) c.loop-digit.invariant.so_far
      ∙ ap (λ d. last_digits c.loop-digit.digit-index c.loop-digit.address ++ d ∷ []) c.in_ok-address.ensures.some.1
      ∙ sym (one_more c.loop-digit.digit-index (c.loop-digit.digit-index + 1) c.loop-digit.address c.in_ok-address.field-0 refl c.in_ok-address.ensures.some.0);
}

pub returns-clause-some : goal.returns-clause-some
returns-clause-some c =
    let all : c.loop-digit.digit-index ≡ 8 = omega arith in
    sym (take_all 8 c.args.digits.now (omega arith)) ∙ ap (λ k. take k c.args.digits.now) (sym all)
    ∙ c.loop-digit.invariant.so_far ∙ ap (λ k. last_digits k c.loop-digit.address) all
    ∙ eight_digits c.loop-digit.address

pub returns-clause-only : goal.returns-clause-only
returns-clause-only c = λ n low e.
    let all : c.loop-digit.digit-index ≡ 8 = omega arith in
    let is : c.args.digits.now ≡ word_digits c.loop-digit.address =
    sym (take_all 8 c.args.digits.now (omega arith)) ∙ ap (λ k. take k c.args.digits.now) (sym all)
    ∙ c.loop-digit.invariant.so_far ∙ ap (λ k. last_digits k c.loop-digit.address) all
    ∙ eight_digits c.loop-digit.address in
    ap Some (same_address c.loop-digit.address n (omega arith) low (sym is ∙ e))
