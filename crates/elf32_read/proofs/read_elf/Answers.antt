use Rattle.std.proofs.Common.{ap, subst, sym, ◌∙◌}
use Rattle.elf32_read.specs.declared.headers.FileHeader.{FileHeader}
use Rattle.elf32_read.specs.Elf.{are_known_flags}
use Rattle.elf32_read.specs.Judging.{HasTables}
use Rattle.elf32_read.proofs.Judging.{readable_flags, readable_long, readable_tables}
use Rattle.elf32_read.proofs.read_elf.Goals as goal

pub file_header-header-requires : goal.file_header-header-requires
file_header-header-requires c = readable_long c.args.file.now c.in_default.ensures.none

pub segments-requires-clause-tables : goal.segments-requires-clause-tables
segments-requires-clause-tables c =
    subst (HasTables c.args.file.now) (sym c.file_header-header.ensures) (readable_tables c.args.file.now c.in_default.ensures.none)

pub sections-requires : goal.sections-requires
sections-requires c =
    subst (HasTables c.args.file.now) (sym c.file_header-header.ensures) (readable_tables c.args.file.now c.in_default.ensures.none)

pub invariant_of-result : goal.invariant_of-result
invariant_of-result c = (
  c.in_ok-segments.ensures.placed,
  ap (λ (h : FileHeader). are_known_flags h.e_flags) c.file_header-header.ensures
      ∙ readable_flags c.args.file.now c.in_default.ensures.none,
)
