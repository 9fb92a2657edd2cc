use Rattle.std.proofs.Common.{sym, ◌∙◌}
use Rattle.rv32_asm.proofs.Naming.{label_again, label_known}
use Rattle.rv32_asm.proofs.rules.broken_label.Goals as goal

pub returns-else-label-line : goal.returns-else-label-line
returns-else-label-line c = λ all before rest e l n. (
  (λ h. h),
  label_again all before rest c.args.labels.now c.args.name.now c.in-Some.label c.args.line e l
      (sym c.in-Some.is ∙ c.find.ensures) n c.if-label-line.false,
)

pub returns-in-None : goal.returns-in-None
returns-in-None c =
    λ all before rest e l n. absurd
    (label_known all before rest c.args.labels.now c.args.name.now e l (sym c.in-None.is ∙ c.find.ensures))
