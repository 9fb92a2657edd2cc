-- Helps the code alone: how an image stores its words, each beside what it reads as.
use Rattle.std.specs.Prelude.{ℕ, Option}
use Rattle.runtime_words.specs.declared.RtWord.{RtWord}
use Rattle.templates.specs.declared.places.Place.{Place}
use Rattle.runtime_words.specs.Reading.{read_word}
use Rattle.jump_map.specs.declared.cells.StoredCell.{StoredCell}
use Rattle.jump_map.specs.Image.{Cell}

abbrev pub cell : ℕ → Option Place → Cell
cell word place = record { word = word; place = place }

-- what contracts see of it
abbrev pub shown : StoredCell → Cell
shown c = record { word = c.word; place = c.place }

-- what the word reads as, and what is stored beside it
abbrev pub reading : StoredCell → Option RtWord
reading c = read_word c.word

abbrev pub stored : StoredCell → Option RtWord
stored c = c.what
