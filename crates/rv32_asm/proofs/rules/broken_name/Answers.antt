use Rattle.std.proofs.Common.{ap, ◌∙◌, subst}
use Rattle.rv32_lines.specs.Reading.{IsReadStatement}
use Rattle.rv32_asm.specs.Places.{here}
use Rattle.rv32_asm.proofs.Judging.{instruction_kept, instruction_refused, entry_lowest, label_lowest}
use Rattle.rv32_asm.proofs.rules.broken_name.Goals as goal

pub returns-in-Ok : goal.returns-in-Ok
returns-in-Ok c = λ all before s l.
    instruction_kept all before s c.in-Instruction.command c.here.result c.in-Ok.field-0
    (subst (λ x. IsReadStatement x s) c.in-Instruction.is l.read_so)
    (c.here.ensures.value ∙ ap here l.place_is) (λ w i r. c.in-Ok.ensures all w l.labels_are i r)

pub returns-in-Err : goal.returns-in-Err
returns-in-Err c = λ all before s l.
    instruction_refused all before s c.in-Instruction.command c.here.result c.in-Err.rule
    (subst (λ x. IsReadStatement x s) c.in-Instruction.is l.read_so)
    (c.here.ensures.value ∙ ap here l.place_is) (λ w i r. c.in-Err.ensures all w l.labels_are i r)

pub returns-in-Entry : goal.returns-in-Entry
returns-in-Entry c = λ all before s l.
    entry_lowest all before s c.in-Entry.name c.broken_entry.result
    (subst (λ x. IsReadStatement x s) c.in-Entry.is l.read_so)
    (c.broken_entry.ensures all before l.labels_are l.entry_told)

pub returns-in-Label : goal.returns-in-Label
returns-in-Label c = λ all before s l.
    label_lowest all before l.rest s c.in-Label.name c.broken_label.result
    (subst (λ x. IsReadStatement x s) c.in-Label.is l.read_so) l.all_are
    (λ e. c.broken_label.ensures all before l.rest e l.labels_are l.line_is)
