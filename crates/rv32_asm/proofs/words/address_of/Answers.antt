use Rattle.std.proofs.Common.{subst, sym, ◌∙◌}
use Rattle.rv32_lines.specs.Reading.{IsReadTarget}
use Rattle.rv32_asm.proofs.Naming.{target_some}
use Rattle.rv32_asm.proofs.words.address_of.Goals as goal

pub returns-in-Some : goal.returns-in-Some
returns-in-Some c = λ all t l h.
    target_some all c.args.labels.now c.in-Name.name c.in-Some.label t l (sym c.in-Some.is ∙ c.find.ensures)
    (subst (λ x. IsReadTarget x t) c.in-Name.is h)
