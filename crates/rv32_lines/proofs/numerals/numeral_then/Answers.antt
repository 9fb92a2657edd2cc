use Rattle.std.proofs.Common.{◌++◌, sym, ap, ◌∙◌}
use Rattle.std.specs.Str.Parse.{digits_value}
use Rattle.std.proofs.lemmas.Bool.{false≢true}
use Rattle.rv32_lines.specs.Reading.{radix, capped, has_no_zero}
use Rattle.rv32_lines.proofs.Cutting.{cut_once}
use Rattle.rv32_lines.proofs.Spelling.{digits_of_numeral, no_zero_of_numeral, value_of_numeral, numeral_of_digits}
use Rattle.rv32_lines.proofs.numerals.numeral_then.Goals as goal

pub returns-then-not-has_no_zero-clause-only : goal.returns-then-not-has_no_zero-clause-only
returns-then-not-has_no_zero-clause-only c = λ n rest h.
    let s = c.split_digits.ensures in
    let same = cut_once c.args.base c.split_digits.result.0.now c.split_digits.result.1.now _ rest s.digits
    (digits_of_numeral c.args.base n) s.ends h.ends (sym s.parts ∙ h.text_is) in
    absurd (false≢true (sym c.if-not-has_no_zero.true ∙ c.has_no_zero.ensures ∙ ap has_no_zero
    same.0 ∙ no_zero_of_numeral c.args.base n))

pub returns-clause-some : goal.returns-clause-some
returns-clause-some c =
    let s = c.split_digits.ensures in
    let b = c.args.base in
    let ds = c.split_digits.result.0.now in (
      digits_value (radix b) ds,
      c.value_of.ensures,
      record {
        text_is = s.parts ∙ ap (λ x. x ++ c.split_digits.result.1.now)
            (sym (numeral_of_digits b ds s.digits (sym c.has_no_zero.ensures ∙ c.if-not-has_no_zero.false)));
        ends = s.ends;
      },
    )

pub returns-clause-only : goal.returns-clause-only
returns-clause-only c = λ n rest h.
    let s = c.split_digits.ensures in
    let b = c.args.base in
    let same = cut_once b c.split_digits.result.0.now c.split_digits.result.1.now _ rest s.digits
    (digits_of_numeral b n) s.ends h.ends (sym s.parts ∙ h.text_is) in (
      c.value_of.ensures ∙ ap capped (ap (digits_value (radix b)) same.0 ∙ value_of_numeral b n),
      same.1,
    )
