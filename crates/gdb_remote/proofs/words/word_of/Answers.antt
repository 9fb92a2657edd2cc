use Rattle.gdb_remote.specs.Words.{all_words}
use Rattle.gdb_remote.proofs.words.word_of.Goals as goal

pub returns : goal.returns
unfolding all_words
returns c = c.word_among.ensures
