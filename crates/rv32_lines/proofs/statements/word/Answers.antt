use Rattle.std.proofs.Common.{◌≡◌, length, true, sym, ap, ◌∙◌, arith}
use Rattle.std.specs.List.{list_all}
use Rattle.std.proofs.lemmas.Bool.{false≢true}
use Rattle.std.specs.Str.Parse.{digits_value}
use Rattle.rv32_lines.specs.declared.numerals.Base.TheVariants.{Hexadecimal}
use Rattle.rv32_lines.specs.Statements.{is_hexadecimal_digit}
use Rattle.rv32_lines.proofs.Cutting.{eight_low, capped_eight}
use Rattle.rv32_lines.proofs.EightDigits.{eight_of_word, digits_of_word, value_of_word, word_of_digits}
use Rattle.rv32_lines.proofs.statements.word.Goals as goal

pub returns-clause-some : goal.returns-clause-some
returns-clause-some c =
    let all : list_all is_hexadecimal_digit c.args.digits.now ≡ true =
    sym c.are_digits.ensures ∙ c.if-not-are_digits.false in (
      digits_value 16 c.args.digits.now,
      eight_low Hexadecimal c.args.digits.now (omega arith) all,
      word_of_digits c.args.digits.now (omega arith) all,
      c.value_of-word.ensures ∙ capped_eight Hexadecimal c.args.digits.now (omega arith) all,
    )

pub returns-clause-only : goal.returns-clause-only
returns-clause-only c = λ w low e.
    let all : list_all is_hexadecimal_digit c.args.digits.now ≡ true =
    sym c.are_digits.ensures ∙ c.if-not-are_digits.false in
    c.value_of-word.ensures ∙ capped_eight Hexadecimal c.args.digits.now (omega arith) all ∙ ap (digits_value 16) e
    ∙ value_of_word w low

pub returns-then-digits-ne-WORD_DIGITS-clause-only : goal.returns-then-digits-ne-WORD_DIGITS-clause-only
returns-then-digits-ne-WORD_DIGITS-clause-only c =
    λ w low e. c.if-digits-ne-WORD_DIGITS.true (ap length e ∙ eight_of_word w)

pub returns-then-not-are_digits-clause-only : goal.returns-then-not-are_digits-clause-only
returns-then-not-are_digits-clause-only c = λ w low e.
    false≢true (sym c.if-not-are_digits.true ∙ c.are_digits.ensures ∙ ap (list_all is_hexadecimal_digit)
    e ∙ digits_of_word w)
