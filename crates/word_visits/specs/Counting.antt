-- Helps the code alone: bodies whose words are counted.
use Rattle.std.specs.Prelude.{◌≡◌, ℕ, ◌+◌, ◌-◌, ◌^◌, ◌<◌, ◌≤◌, Bool, true, List, ◌++◌, length}
use Rattle.node_words.specs.exec_map.Contents.{program_of}
use Rattle.node_words.specs.jump_map.Image.{Cell}
use Rattle.node_words.specs.node_model.Node.{Node, Work, can_execute}
use Rattle.node_words.specs.declared.exec_state.ExecState.{ExecState}
use Rattle.node_words.specs.declared.strides.Going.{Going}
use Rattle.node_words.specs.GoingOn.{GoesFurther, node_on}
use Rattle.node_words.specs.Runs.{AreWordsOf, numbers_from}
use Rattle.word_visits.specs.Visits.{AreCounted, WordVisits}

-- the words by which a body goes on, where a node's budget has more than so many, are counted
abbrev pub BodyIsCounted : List Cell → ℕ → ℕ → ExecState → (words : ℕ) → (before after : List WordVisits)
    → Type 0
BodyIsCounted image most from b words vs ws =
    (work : Work) (n : Node) → work.image ≡ image → work.program ≡ program_of b.local.program
    → can_execute n.phase ≡ true → n.executed + most < work.budget
    → AreCounted work words (node_on n b from 0) vs ws

-- the numbers of a body's words, of which the last so many stand after a jump
abbrev pub numbers_passed : (behind : ℕ) → (from to : Going) → List ℕ
numbers_passed behind from to =
    numbers_from from.at (from.left - to.left - behind) ++ numbers_from (to.at - behind) behind

-- a body goes on by words of these numbers, and each of them that looks reads something other than
-- the flag word
pub record PassesBy (image : List Cell) (looks : ℕ → Bool) (behind : ℕ) (from : Going)
    (b : ExecState) (to : Going) (b' : ExecState) : Type 0 where
  pub some : to.left + behind < from.left
  pub low : to.at < 2 ^ 32
  pub goes : (words : ℕ)
      → GoesFurther image b from.at words b' to.at (words + (from.left - to.left))
  pub first : from.at + (from.left - to.left - behind) ≤ length image
  pub last : 0 < behind → to.at ≤ length image
  pub least : behind ≤ to.at
  pub words : (work : Work) (n : Node) (before : ℕ) → work.image ≡ image
      → work.program ≡ program_of b.local.program → can_execute n.phase ≡ true
      → n.executed + before + (from.left - to.left) < work.budget
      → AreWordsOf work looks (numbers_passed behind from to) (node_on n b from.at before)
