use Rattle.std.proofs.Common.{refl, sym, ◌∙◌}
use Rattle.rv32_lines.specs.Texts.{Name}
use Rattle.rv32_lines.proofs.operands.target_of.Goals as goal

pub returns-then-is_name-clause-some : goal.returns-then-is_name-clause-some
returns-then-is_name-clause-some c =
    (Name c.args.text.now, refl, record { text_is = refl; written = sym c.is_name.ensures ∙ c.if-is_name.true })
