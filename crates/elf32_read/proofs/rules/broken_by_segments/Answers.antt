use Rattle.std.proofs.Common.{sym}
use Rattle.elf32_read.proofs.Judging.{below_10, below_11, readable}
use Rattle.elf32_read.proofs.rules.broken_by_segments.Goals as goal

pub returns-in_err-header-clause-none : goal.returns-in_err-header-clause-none
returns-in_err-header-clause-none c =
    let file = c.args.file.now in
    rw c.from_residual.ensures
    (readable file (below_11 file (below_10 file c.requires.before (sym c.in_default.ensures))
    (sym c.in_default-first_outside.ensures)) (sym c.in_err-header.ensures))
