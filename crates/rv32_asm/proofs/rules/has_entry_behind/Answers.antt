use Rattle.std.proofs.Common.{[], ◌∷◌, ◌++◌, sym, subst}
use Rattle.rv32_lines.specs.Reading.{IsReadStatement}
use Rattle.rv32_asm.specs.Standing.{TellsEntry}
use Rattle.rv32_asm.proofs.Going.{entry_kept, entry_said, entry_unsaid}
use Rattle.rv32_asm.proofs.rules.has_entry_behind.Goals as goal

pub returns-then-has_entry : goal.returns-then-has_entry
returns-then-has_entry c = λ before s r told.
    subst (TellsEntry (before ++ s ∷ [])) (sym c.if-has_entry.true)
    (entry_kept before s (subst (TellsEntry before) c.if-has_entry.true told))

pub returns-in-Entry : goal.returns-in-Entry
returns-in-Entry c =
    λ before s r told. entry_said before s c.in-Entry.name (subst (λ x. IsReadStatement x s) c.in-Entry.is r)

pub returns-in_default : goal.returns-in_default
returns-in_default c =
    λ before s r told. entry_unsaid before s c.args.statement.now r c.in_default.not-Entry
    (subst (TellsEntry before) c.if-has_entry.false told)
