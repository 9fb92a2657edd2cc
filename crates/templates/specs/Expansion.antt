-- The words that a sequence is written as.
use Rattle.std.specs.Prelude.{◌≡◌, ◌++◌, List, Option, Some, map}
use Rattle.std.specs.Option.{option_map}
use Rattle.templates.specs.declared.words.Item.{Item}
use Rattle.templates.specs.declared.words.Item.TheVariants.{Fixed, Jump}
use Rattle.runtime_words.specs.Reading.{read_word}
use Rattle.templates.specs.Sequences.{ItemWord, Runs, GoesTo, SequenceItem}

-- what a written item is; None where its word is no word of rewritten code
abbrev pub reads : Item → Option ItemWord
reads (Fixed word) = option_map Runs (read_word word)
reads (Jump place head) = Some (GoesTo place head)

-- what the words of a sequence are
abbrev pub words_of : List SequenceItem → List (Option ItemWord)
words_of items = map (λ i. Some i.what) items

-- the sequence was appended, in words that read as its items
pub record Appends (old new : List Item) (items : List SequenceItem) : Type 0 where
  pub added : List Item
  pub behind : new ≡ old ++ added
  pub words : map reads added ≡ words_of items
