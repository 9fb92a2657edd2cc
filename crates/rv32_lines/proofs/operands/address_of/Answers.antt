use Rattle.std.proofs.Common.{◌≡◌, true, sym, ◌∙◌, arith}
use Rattle.std.specs.List.{list_all}
use Rattle.rv32_lines.specs.declared.numerals.Base.TheVariants.{Hexadecimal}
use Rattle.rv32_lines.specs.Statements.{is_hexadecimal_digit}
use Rattle.rv32_lines.proofs.Cutting.{capped_eight}
use Rattle.rv32_lines.proofs.operands.address_of.Goals as goal

pub returns-clause-some : goal.returns-clause-some
returns-clause-some c =
    let all : list_all is_hexadecimal_digit c.args.digits.now ≡ true =
    sym c.are_digits.ensures ∙ c.if-not-are_digits.false in (
      (omega arith, c.value_of-address.ensures ∙ capped_eight Hexadecimal c.args.digits.now (omega arith) all),
      (omega arith, all),
    )
