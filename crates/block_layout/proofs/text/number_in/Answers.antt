use Rattle.std.proofs.Common.{◌<◌, length, sym, subst, arith}
use Rattle.std.specs.Char.{digit_value}
use Rattle.block_layout.proofs.Fields.{all_more, digit_at, next_low, next_value}
use Rattle.block_layout.proofs.text.number_in.Goals as goal

pub returns-in_err-digit : goal.returns-in_err-digit
returns-in_err-digit c =
    rw c.from_residual.ensures
    (λ all.
    let low = digit_at c.args.radix c.args.digits.now c.loop-byte.byte-index (omega (arith, c.loop-byte-test.true)) all in
    c.in_err-digit.ensures.value (subst (λ x. digit_value x < c.args.radix) (sym c.from.ensures) low))

pub overflow_mul-number : goal.overflow_mul-number
overflow_mul-number c =
    let digit = c.in_ok-digit.ensures.value in
    let next = next_low c.args.radix c.args.digits.now c.loop-byte.byte-index c.loop-byte.number c.from.result c.in_ok-digit.digit c.requires.some c.requires.small (omega (arith, c.loop-byte-test.true)) c.from.ensures digit.0 digit.1 c.loop-byte.invariant.all c.loop-byte.invariant.value in
    omega (arith, next)

pub overflow_add-number : goal.overflow_add-number
overflow_add-number c =
    let digit = c.in_ok-digit.ensures.value in
    let next = next_low c.args.radix c.args.digits.now c.loop-byte.byte-index c.loop-byte.number c.from.result c.in_ok-digit.digit c.requires.some c.requires.small (omega (arith, c.loop-byte-test.true)) c.from.ensures digit.0 digit.1 c.loop-byte.invariant.all c.loop-byte.invariant.value in
    omega (arith, next)

pub loop-byte-preserved : goal.loop-byte-preserved
loop-byte-preserved c =
    let digit = c.in_ok-digit.ensures.value in
    let within : c.loop-byte.byte-index < length c.args.digits.now = omega (arith, c.loop-byte-test.true) in
    record {
      all = all_more c.args.radix c.args.digits.now c.loop-byte.byte-index within c.loop-byte.invariant.all (subst (λ x. digit_value x < c.args.radix) c.from.ensures digit.0);
      value = next_value c.args.radix c.args.digits.now c.loop-byte.byte-index c.loop-byte.number c.from.result c.in_ok-digit.digit within c.from.ensures digit.1 c.loop-byte.invariant.value;
    }
