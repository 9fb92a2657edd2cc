use Rattle.elf32_write.proofs.RoomLemmas.{limits}
use Rattle.elf32_write.proofs.Law.{readable, reads_back}
use Rattle.elf32_write.proofs.write_law.Goals as goal

pub returns-clause-readable : goal.returns-clause-readable
returns-clause-readable c e words writable = readable e (limits e writable) words

pub returns-clause-reads_back : goal.returns-clause-reads_back
returns-clause-reads_back c e words writable = reads_back e (limits e writable) words
