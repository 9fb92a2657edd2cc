use Rattle.std.proofs.Common.{◌≡◌, ◌<◌, eqb, false, length, sym, ap, ◌∙◌, arith}
use Rattle.std.proofs.lemmas.Bool.Decides.{nat_tests}
use Rattle.run_record.specs.declared.refused.RecordRule.TheVariants.{Syntax}
use Rattle.run_record.specs.declared.refused.RecordRefused.TheVariants.{Broken}
use Rattle.run_record.proofs.Passing.{end_fault}
use Rattle.run_record.proofs.lines.TextLines.end.Goals as goal

pub returns-clause-err : goal.returns-clause-err
returns-clause-err c =
    let bytes : c.self.inside.bytes.now ≡ c.args.self.now.bytes = ap (λ l. l.bytes) c.self.view_is in
    let number : c.self.inside.number ≡ c.args.self.now.number = ap (λ l. l.number) c.self.view_is in
    let none : eqb (length c.self.inside.bytes.now) 0 ≡ false = sym c.is_empty.ensures ∙ c.if-is_empty.false in
    let some : 0 < length c.self.inside.bytes.now = grind (arith, nat_tests) in
    end_fault c.args.self.now c.at.result (omega (arith, some, ap length bytes)) (c.at.ensures ∙ ap (Broken Syntax) number)
