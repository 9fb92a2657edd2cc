-- Helps the code alone: bodies whose words are tallied.
use Rattle.std.specs.Prelude.{◌≡◌, ℕ, ◌+◌, ◌<◌, true, List}
use Rattle.node_words.specs.exec_map.Contents.{program_of}
use Rattle.node_words.specs.jump_map.Image.{Cell}
use Rattle.node_words.specs.node_model.Node.{Node, Work, can_execute}
use Rattle.node_words.specs.declared.exec_state.ExecState.{ExecState}
use Rattle.node_words.specs.GoingOn.{node_on}
use Rattle.word_visits.specs.Tallies.{AreTallied, WordTally, steps_of}

-- so many of a node's next words are tallied, and so many of them count
pub record HaveSteps (work : Work) (words : ℕ) (n : Node) (ts : List WordTally) (steps : ℕ)
    : Type 0 where
  pub tallied : AreTallied work words n ts
  pub count : steps ≡ steps_of work words n ts

-- the words by which a body goes on, where a node's budget has more than so many, are tallied, and
-- so many of them count
abbrev pub BodyHasSteps : List Cell → ℕ → ℕ → ExecState → (words : ℕ) → List WordTally → (steps : ℕ)
    → Type 0
BodyHasSteps image most from b words ts steps =
    (work : Work) (n : Node) → work.image ≡ image → work.program ≡ program_of b.local.program
    → can_execute n.phase ≡ true → n.executed + most < work.budget
    → HaveSteps work words (node_on n b from 0) ts steps
