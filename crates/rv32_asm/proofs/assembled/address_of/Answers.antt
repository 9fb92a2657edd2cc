use Rattle.std.proofs.Common.{sym, ◌∙◌}
use Rattle.rv32_asm.proofs.Entering.{address_some, address_none, nameless}
use Rattle.rv32_asm.proofs.assembled.address_of.Goals as goal

pub returns-in-Some-address : goal.returns-in-Some-address
returns-in-Some-address c = λ all l.
    address_some all c.args.labels.now c.args.name.now c.in-Some.label c.in-Some-address.address l
    (sym c.in-Some.is ∙ c.find.ensures) c.in-Some-address.is

pub returns-in-None-address : goal.returns-in-None-address
returns-in-None-address c = λ all l address n.
    absurd (address_none all c.args.labels.now c.args.name.now c.in-Some.label l (sym c.in-Some.is ∙ c.find.ensures)
    c.in-None-address.is address n)

pub returns-in-None : goal.returns-in-None
returns-in-None c =
    λ all l address n. absurd
    (nameless all c.args.labels.now c.args.name.now l (sym c.in-None.is ∙ c.find.ensures) address n)
