-- How many executed words count, by their numbers.
use Rattle.std.specs.Prelude.{◌≡◌, ℕ, zero, suc, ◌+◌, ◌<◌, Bool, true, false, if◌then◌else◌, List, [], ◌∷◌, length, slice_index_or}
use Rattle.node_words.specs.jump_map.Image.{address_of_word}
use Rattle.node_words.specs.node_model.Node.{Node, Work, word_outcome}
use Rattle.node_words.specs.node_model.Turns.{word_turn}
use Rattle.word_visits.specs.Visits.{next_number, reads_other}

-- whether a word counts, and whether it looks: whether it counts only where it reads something
-- other than the flag word
pub record WordTally : Type 0 where
  pub counts : Bool
  pub looks : Bool

-- that of a word that has no place among the tallies
abbrev pub unlisted : WordTally
unlisted = record { counts = false; looks = false }

-- that of the word of a number
abbrev pub tally_at : List WordTally → ℕ → WordTally
tally_at ts k = slice_index_or ts k unlisted

-- a node's next word is tallied: it is the one of its number, it has a place among the tallies, and
-- where it looks, it reads something other than the flag word
pub record IsTallied (work : Work) (n : Node) (ts : List WordTally) : Type 0 where
  pub at : n.lane.at ≡ address_of_word (next_number n)
  pub within : next_number n < length ts
  pub other : (tally_at ts (next_number n)).looks ≡ true → reads_other (word_outcome work n) ≡ true

-- so many of a node's next words are tallied
abbrev pub AreTallied : Work → (words : ℕ) → Node → List WordTally → Type 0
AreTallied work zero n ts = Unit {0}
AreTallied work (suc k) n ts = IsTallied work n ts × AreTallied work k (word_turn work n).node ts

-- one for the word of a number, if that counts
abbrev pub step_at : List WordTally → ℕ → ℕ
step_at ts k = if (tally_at ts k).counts then 1 else 0

-- how many of so many of a node's next words count
abbrev pub steps_of : Work → (words : ℕ) → Node → List WordTally → ℕ
steps_of work zero n ts = 0
steps_of work (suc k) n ts = step_at ts (next_number n) + steps_of work k (word_turn work n).node ts

-- how many of the words of these numbers count
abbrev pub steps_among : List WordTally → List ℕ → ℕ
steps_among ts [] = 0
steps_among ts (k ∷ ks) = step_at ts k + steps_among ts ks
