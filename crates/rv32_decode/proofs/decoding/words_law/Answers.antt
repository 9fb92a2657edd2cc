use Rattle.rv32_decode.proofs.Rebuilt.{only_word}
use Rattle.rv32_decode.proofs.decoding.words_law.Goals as goal

pub returns : goal.returns
returns c = record { words = only_word }
