use Rattle.rv32_lines.proofs.Once.{reading_once, written_once}
use Rattle.rv32_lines.proofs.law.reading_law.Goals as goal

pub returns-clause-texts : goal.returns-clause-texts
returns-clause-texts c = λ text a b p q. reading_once text a b p q

pub returns-clause-instructions : goal.returns-clause-instructions
returns-clause-instructions c = λ a b p q e. written_once a b p q e
