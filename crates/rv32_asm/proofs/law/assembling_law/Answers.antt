use Rattle.rv32_asm.proofs.Faults.{faults_once, apart}
use Rattle.rv32_asm.proofs.Unique.{word_once, assembled_once}
use Rattle.rv32_asm.proofs.law.assembling_law.Goals as goal

pub returns-clause-words : goal.returns-clause-words
returns-clause-words c = λ all before w a b p h g. word_once c.text_law.ensures.words all before w a b p h g

pub returns-clause-one : goal.returns-clause-one
returns-clause-one c = λ text a b h g. assembled_once c.text_law.ensures.words c.reading_law.ensures.texts text a b h g

pub returns-clause-faults : goal.returns-clause-faults
returns-clause-faults c = λ text r q k l p h. faults_once c.reading_law.ensures.texts text r q k l p h

pub returns-clause-apart : goal.returns-clause-apart
returns-clause-apart c = λ text a r k p h. apart c.reading_law.ensures.texts text a r k p h
