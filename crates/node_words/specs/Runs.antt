-- Words of a node, one after another.
use Rattle.std.specs.Prelude.{◌≡◌, ℕ, zero, suc, ◌+◌, ◌<◌, ◌≤◌, Bool, true, false, not, ◌==◌, List, [], ◌∷◌, Option, Some, length}
use Rattle.std.specs.Option.{option_map_or}
use Rattle.node_memory.specs.rv32_step.OneMemory.{value_read}
use Rattle.node_memory.specs.templates.Sequences.{flag_word}
use Rattle.node_memory.specs.jump_map.Image.{address_of_word}
use Rattle.node_memory.specs.node_model.Node.{Node, Work, WordOutcome, can_execute, word_outcome}
use Rattle.node_memory.specs.node_model.Turns.{silent, word_turn}

-- a node goes on to another by so many words, each of which prints nothing and sends nothing
abbrev pub GoesOnBy : Work → ℕ → Node → Node → Type 0
GoesOnBy work zero n m = n ≡ m
GoesOnBy work (suc k) n m =
    (can_execute n.phase ≡ true) × (word_turn work n ≡ silent (word_turn work n).node)
    × GoesOnBy work k (word_turn work n).node m

-- a word reads something other than the flag word
abbrev pub reads_other : WordOutcome → Bool
reads_other o = option_map_or (λ v. not (v == flag_word)) (value_read o.access) false

-- so many numbers, one after another, from one on
abbrev pub numbers_from : (first words : ℕ) → List ℕ
numbers_from k zero = []
numbers_from k (suc n) = k ∷ numbers_from (k + 1) n

-- a node's next word is the image's word of this number; where it looks, it reads something other
-- than the flag word
pub record IsWordOf (work : Work) (looks : ℕ → Bool) (k : ℕ) (n : Node) : Type 0 where
  pub at : n.lane.at ≡ address_of_word k
  pub within : k < length work.image
  pub other : looks k ≡ true → reads_other (word_outcome work n) ≡ true

-- a node's next words are those of these numbers
abbrev pub AreWordsOf : Work → (looks : ℕ → Bool) → List ℕ → Node → Type 0
AreWordsOf work looks [] n = Unit {0}
AreWordsOf work looks (k ∷ ks) n =
    IsWordOf work looks k n × AreWordsOf work looks ks (word_turn work n).node

-- of so many words, from one on, none looks, but for one that is told of
abbrev pub LooksAtMost : (looks : ℕ → Bool) → (told : Option ℕ) → (first words : ℕ) → Type 0
LooksAtMost looks told first words =
    (k : ℕ) → first ≤ k → k < first + words → looks k ≡ true → told ≡ Some k
