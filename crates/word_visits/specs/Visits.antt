-- How often words are executed, by their numbers.
use Rattle.std.specs.Prelude.{◌≡◌, ℕ, zero, suc, ◌+◌, ◌<◌, Bool, true, false, List, [], ◌∷◌, length, set, slice_index_or}
use Rattle.node_words.specs.jump_map.Image.{address_of_word, number_of_word}
use Rattle.node_words.specs.node_model.Node.{Node, Work, word_outcome}
use Rattle.node_words.specs.node_model.Turns.{word_turn}
pub use Rattle.node_words.specs.Runs.{reads_other}

-- how often a word was executed, and whether it looks: whether it counts only where it reads something
-- other than the flag word
pub record WordVisits : Type 0 where
  pub times : ℕ
  pub looks : Bool

-- those of a word that has no place among the visits
abbrev pub never : WordVisits
never = record { times = 0; looks = false }

-- those of the word of a number
abbrev pub visits_at : List WordVisits → ℕ → WordVisits
visits_at vs k = slice_index_or vs k never

-- the word of a number is executed once more
abbrev pub visited : ℕ → List WordVisits → List WordVisits
visited k vs = set vs k (record (visits_at vs k) { times = (visits_at vs k).times + 1 })

-- the number of a node's next word
abbrev pub next_number : Node → ℕ
next_number n = number_of_word n.lane.at

-- a node's next word counts: it is the one of its number, it has a place among the visits, and where
-- they look, it reads something other than the flag word
pub record Counts (work : Work) (n : Node) (vs : List WordVisits) : Type 0 where
  pub at : n.lane.at ≡ address_of_word (next_number n)
  pub within : next_number n < length vs
  pub other : (visits_at vs (next_number n)).looks ≡ true → reads_other (word_outcome work n) ≡ true

-- so many of a node's next words count, and lead from one table of visits to another
abbrev pub AreCounted : Work → (words : ℕ) → Node → (before after : List WordVisits) → Type 0
AreCounted work zero n vs ws = vs ≡ ws
AreCounted work (suc k) n vs ws =
    Counts work n vs × AreCounted work k (word_turn work n).node (visited (next_number n) vs) ws

-- the words of these numbers are executed once more, one after another
abbrev pub visited_all : List ℕ → List WordVisits → List WordVisits
visited_all [] vs = vs
visited_all (k ∷ ks) vs = visited_all ks (visited k vs)
