-- What tables of visits say.
use Rattle.std.specs.Prelude.{List}
use Rattle.node_words.specs.jump_map.Image.{Cell}
use Rattle.node_words.specs.jump_map.Micro.{AreMicrosOf}
use Rattle.node_words.specs.jump_map.Strides.{HasStrides}
use Rattle.word_visits.specs.declared.visits.Visits.{Visits}
use Rattle.word_visits.specs.Entries.{visits_in}
use Rattle.word_visits.specs.Visits.{WordVisits}

-- what a table says of each word
abbrev pub visits_of : Visits → List WordVisits
visits_of v = visits_in 0 0 v.entries.items

-- a table of this image's words: it has their micro-ops, and strides of these
pub record AreVisitsIn (image : List Cell) (v : Visits) : Type 0 where
  pub micros : AreMicrosOf image v.micros.items
  pub strides : HasStrides v.micros.items v.kinds.items

-- a table is still one of the words of each image of which it was
abbrev pub StayVisits : (old new : Visits) → Type 0
StayVisits old new = (image : List Cell) → AreVisitsIn image old → AreVisitsIn image new
