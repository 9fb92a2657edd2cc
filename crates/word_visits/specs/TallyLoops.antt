-- What loops that count by tallies say.
use Rattle.std.specs.Prelude.{◌≡◌, ℕ, ◌+◌, List}
use Rattle.node_words.specs.jump_map.Image.{Cell}
use Rattle.node_words.specs.node_model.Node.{Node, Work}
use Rattle.word_visits.specs.declared.counting.TallyLoop.{TallyLoop}
use Rattle.word_visits.specs.Tallies.{AreTallied, steps_of}
use Rattle.word_visits.specs.TallyTables.{AreTalliesIn, tallies_of}

-- the tallies of a loop are of this image's words
abbrev pub AreTalliedIn : List Cell → TallyLoop → Type 0
AreTalliedIn image c = AreTalliesIn image c.tallies.now

-- so many of a node's next words are tallied, and a loop has counted those of them that count
pub record HasCounted (work : Work) (words : ℕ) (n : Node) (c d : TallyLoop) : Type 0 where
  pub same : d.tallies.now ≡ c.tallies.now
  pub tallied : AreTallied work words n (tallies_of c.tallies.now)
  pub count : d.steps ≡ c.steps + steps_of work words n (tallies_of c.tallies.now)
