use Rattle.gdb_remote.proofs.WordsFound.{found}
use Rattle.gdb_remote.proofs.law.word_law.Goals as goal

pub returns : goal.returns
returns c = found
