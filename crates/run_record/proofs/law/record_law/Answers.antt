use Rattle.run_record.proofs.NoFault.{no_fault, one_fault}
use Rattle.run_record.proofs.Told.{record_told}
use Rattle.run_record.proofs.law.record_law.Goals as goal

pub returns-clause-one : goal.returns-clause-one
returns-clause-one c = record_told

pub returns-clause-either : goal.returns-clause-either
returns-clause-either c = λ r rule line p h f. no_fault r p h rule line f

pub returns-clause-first : goal.returns-clause-first
returns-clause-first c = λ text rule other line number f g. one_fault text rule other line number f g
