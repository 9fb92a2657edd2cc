use Rattle.std.proofs.Common.{◌≡◌, ℕ, List, ◌++◌, None, Some, sym, subst}
use Rattle.std.specs.Prelude.{codes}
use Rattle.rv32_lines.specs.Statements.{IsNumber, is_hexadecimal_digit}
use Rattle.rv32_lines.proofs.statements.segment.Goals as goal

pub returns-in_err-flags-clause-only : goal.returns-in_err-flags-clause-only
returns-in_err-flags-clause-only c =
    λ kind digits flags start k s e. absurd (c.in_err-flags.ensures.only kind (codes "0x" ++ digits) flags k e)

pub returns-in_err-start-clause-only : goal.returns-in_err-start-clause-only
returns-in_err-start-clause-only c = λ kind digits flags start k s e.
    let told = c.in_ok-flags.ensures.only kind (codes "0x" ++ digits) flags k e in
    let same : c.in_ok-digits.digits.now ≡ digits = c.in_ok-digits.ensures.only digits told.1 in
    let t : None ≡ Some start = c.in_err-start.ensures.only start
    (subst (λ (ds : List ℕ). IsNumber 16 is_hexadecimal_digit ds start) (sym same) s) in
    absurd (cc)
