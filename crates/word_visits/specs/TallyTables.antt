-- What tables of tallies say.
use Rattle.std.specs.Prelude.{List}
use Rattle.node_words.specs.jump_map.Image.{Cell}
use Rattle.word_visits.specs.declared.tallies.Tallies.{Tallies}
use Rattle.word_visits.specs.Sums.{tallies_in}
use Rattle.word_visits.specs.Tallies.{WordTally}
use Rattle.word_visits.specs.VisitTables.{AreVisitsIn, visits_of}

-- what a table says of each word
abbrev pub tallies_of : Tallies → List WordTally
tallies_of t = tallies_in (visits_of t.words) t.sums.items

-- a table of this image's words
abbrev pub AreTalliesIn : List Cell → Tallies → Type 0
AreTalliesIn image t = AreVisitsIn image t.words

-- a table is still one of the words of each image of which it was
abbrev pub StayTallies : (old new : Tallies) → Type 0
StayTallies old new = (image : List Cell) → AreTalliesIn image old → AreTalliesIn image new
