use Rattle.elf32_read.proofs.Judging.{one_rule, readable_by, no_rule}
use Rattle.elf32_read.proofs.refusal_law.Goals as goal

pub returns-clause-one_rule : goal.returns-clause-one_rule
returns-clause-one_rule c file r q first other = one_rule file r q first other

pub returns-clause-unreadable : goal.returns-clause-unreadable
returns-clause-unreadable c file r first readable = no_rule file readable r first.fits

pub returns-clause-no_rule : goal.returns-clause-no_rule
returns-clause-no_rule c file r readable fits = no_rule file readable r fits

pub returns-clause-readable : goal.returns-clause-readable
returns-clause-readable c file never = readable_by file never
