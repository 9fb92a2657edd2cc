-- Words of a node, one after another.
use Rattle.std.specs.Prelude.{◌≡◌, ℕ, true, List, Option}
use Rattle.node_words.specs.dsm_messages.declared.messages.Post.{Post}
use Rattle.node_words.specs.node_model.Node.{Node, Work, can_execute}
use Rattle.node_words.specs.node_model.Turns.{word_turn}
pub use Rattle.node_words.specs.Runs.{GoesOnBy}

-- a node has executed words, of which those before the last print nothing and send nothing
pub record HasExecuted (work : Work) (n m : Node) (sends : List Post) (output : Option ℕ)
    : Type 0 where
  pub words : ℕ
  pub last : Node
  pub goes_on : GoesOnBy work words n last
  pub may : can_execute last.phase ≡ true
  pub turn : record { node = m; sends = sends; printed = output } ≡ word_turn work last
