-- Helps the code alone: bodies from word to word.
use Rattle.std.specs.Prelude.{◌≡◌, ℕ, zero, suc, ◌+◌, ◌^◌, ◌<◌, ◌≤◌, true, List, Some}
use Rattle.node_memory.specs.rv32_step.declared.Demand.{Demand}
use Rattle.node_memory.specs.micro_op.Micro.{Demands}
use Rattle.node_memory.specs.exec_map.Contents.{program_of}
use Rattle.node_memory.specs.jump_map.Image.{Cell}
use Rattle.node_words.specs.Address.{word_address}
use Rattle.node_words.specs.declared.exec_state.ExecState.{ExecState}
use Rattle.node_memory.specs.node_model.Node.{Node, Work, Phase, Running, can_execute}
use Rattle.node_words.specs.Runs.{GoesOnBy}
use Rattle.node_memory.specs.Shelf.{local_of, ground_of}
use Rattle.node_words.specs.Kept.{lane_of, StepsTo}

-- the phase of a node that may execute words, after so many that go on
abbrev pub phase_on : Phase → (words : ℕ) → Phase
phase_on phase zero = phase
phase_on phase (suc k) = Running

-- the node with this body at the word with this index, after so many words that go on
abbrev pub node_on : Node → ExecState → (at words : ℕ) → Node
node_on n b at words = record n {
  lane = lane_of b.lane (word_address at);
  local = local_of b.local;
  executed = n.executed + words;
  stamp = n.stamp + words;
  phase = phase_on n.phase words;
}

-- a node goes on from one body to another by so many words, where its budget has more than so many
abbrev pub BodyGoesOn : List Cell → ℕ → ℕ → ExecState → ℕ → ℕ → ExecState → Type 0
BodyGoesOn image most from b words at b' =
    (work : Work) (n : Node) → work.image ≡ image → work.program ≡ program_of b.local.program
    → can_execute n.phase ≡ true → n.executed + most < work.budget
    → GoesOnBy work words (node_on n b from 0) (node_on n b' at words)

-- what so many words by which a body goes on tell: of a node whose budget has more than so many; and
-- of every node, where there are none
pub record BodyTells (told : Work → ℕ → Node → Type 0) (image : List Cell) (most from : ℕ)
    (b : ExecState) (words : ℕ) : Type 0 where
  pub some : (work : Work) (n : Node) → work.image ≡ image
      → work.program ≡ program_of b.local.program → can_execute n.phase ≡ true
      → n.executed + most < work.budget → told work words (node_on n b from 0)
  pub none : words ≡ 0 → (work : Work) (n : Node) → told work 0 n

-- a body that has gone on to a word with an index goes on from there to another
pub record GoesFurther (image : List Cell) (b : ExecState) (at words : ℕ) (b' : ExecState)
    (at' words' : ℕ)
    : Type 0 where
  pub more : words ≤ words'
  pub ground_same : ground_of b'.local ≡ ground_of b.local
  pub goes : (most from : ℕ) (first : ExecState) → words' ≤ most
      → ground_of b.local ≡ ground_of first.local → BodyGoesOn image most from first words at b
      → BodyGoesOn image most from first words' at' b'

-- a body does what a word demands, after which the next one follows
abbrev pub DoesNext : ExecState → Demand → ExecState → Type 0
DoesNext b d b' =
    (image : List Cell) (at k : ℕ) → k ≡ at + 1 → k < 2 ^ 32
    → StepsTo image (Demands d) at b.lane b.local b'.lane b'.local (Some k)
