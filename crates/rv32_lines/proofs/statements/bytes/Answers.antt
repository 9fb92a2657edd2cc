use Rattle.std.proofs.Common.{◌≡◌, ◌*◌, length, true, sym, ap, ◌∙◌, arith}
use Rattle.std.specs.List.{list_all}
use Rattle.std.proofs.lemmas.Bool.{false≢true}
use Rattle.rv32_lines.specs.Statements.{is_hexadecimal_digit}
use Rattle.rv32_lines.proofs.Pairs.{paired, paired_is, paired_low, paired_length, bytes_length, bytes_all}
use Rattle.rv32_lines.proofs.statements.bytes.Goals as goal

pub returns-then-not-are_digits-clause-only : goal.returns-then-not-are_digits-clause-only
returns-then-not-are_digits-clause-only c = λ bs h.
    false≢true (sym c.if-not-are_digits.true ∙ c.are_digits.ensures ∙ ap (list_all is_hexadecimal_digit)
    h.digits_are ∙ bytes_all bs h.bytes_are)

pub returns-clause-some : goal.returns-clause-some
returns-clause-some c =
    let ds = c.args.digits.now in
    let all : list_all is_hexadecimal_digit ds ≡ true = sym c.are_digits.ensures ∙ c.if-not-are_digits.false in
    let half = paired_length ds in
    let is = paired_is ds (omega arith) all in (
      paired ds,
      record {
        digits_are = is;
        bytes_are = paired_low ds all;
        some = omega (arith, half);
        few = omega
            (arith, half);
      },
      (is, paired_low ds all),
    )

pub returns-clause-only : goal.returns-clause-only
returns-clause-only c = λ bs h. (h.digits_are, h.bytes_are)

pub returns-then-length-ne0-clause-only : goal.returns-then-length-ne0-clause-only
returns-then-length-ne0-clause-only c = λ bs h.
    let n : length c.args.digits.now ≡ 2 * length bs = ap length h.digits_are ∙ bytes_length bs in
    omega (arith, n)

pub returns-then-length-clause-only : goal.returns-then-length-clause-only
returns-then-length-clause-only c = λ bs h.
    let n : length c.args.digits.now ≡ 2 * length bs = ap length h.digits_are ∙ bytes_length bs in
    omega (arith, n, h.some, h.few)
