use Rattle.std.proofs.Common.{◌≡◌, drop}
use Rattle.gdb_remote.specs.Words.{found_word}
use Rattle.gdb_remote.proofs.words.word_among.Given as goal

-- none of the words so far is the one
abbrev pub invariant-loop-word : goal.invariant-loop-word
invariant-loop-word l =
    found_word (drop l.word-index l.words) l.text ≡ found_word l.words l.text
