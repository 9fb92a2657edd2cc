-- Helps the code alone: what a processor keeps, and what one word does to it and to the node.
use Rattle.std.specs.Prelude.{◌≡◌, ℕ, List, [], Option, Some, None, slice_index}
use Rattle.node_memory.specs.byte_range.Window.{window_memory}
use Rattle.node_memory.specs.exec_map.Contents.{program_of}
use Rattle.rv32_program.specs.declared.End.TheVariants.{Exited}
use Rattle.node_memory.specs.rv32_step.Registers.{registers_of}
use Rattle.node_memory.specs.micro_op.Micro.{Meaning, Unserved, Demands, Enters as EntersBy}
use Rattle.node_memory.specs.jump_map.Image.{Cell}
use Rattle.node_words.specs.Address.{word_address}
use Rattle.node_memory.specs.node_model.declared.NodeCounts.{NodeCounts}
use Rattle.node_words.specs.declared.lane.ProcessorState as kept
use Rattle.node_words.specs.declared.lane.Move as kept_move
use Rattle.node_words.specs.declared.lane.Move.TheVariants as kept_to
use Rattle.node_words.specs.declared.lane.Resume as kept_resume
use Rattle.node_words.specs.declared.lane.Resume.TheVariants as kept_on
use Rattle.node_words.specs.declared.lane.Tally as kept_tally
use Rattle.node_words.specs.declared.lane.Tally.TheVariants as kept_count
use Rattle.node_words.specs.declared.lane.WordOutcome as kept_outcome
use Rattle.node_words.specs.declared.serve.Following as kept_following
use Rattle.node_words.specs.declared.serve.Following.TheVariants as kept_after
use Rattle.node_words.specs.declared.serve.Served as kept_served
use Rattle.node_memory.specs.node_model.Node.{ProcessorState, Phase, Waiting, Ended, WordOutcome, Move, Next, Again, To, Enters, Waits, Leaves, Resume, PastWord, SameWord, ByLines, Want, Tally, Nothing_counted, FalseMiss, FallsBack, native, indirect, lane_after, phase_after, stop_at, counts_after}
use Rattle.node_memory.specs.node_model.Turns.{wants_of}
use Rattle.node_memory.specs.Shelf.{Shelf, Ground, ground_of, local_of, want_of, others_of, all_wants}

abbrev pub lane_of : kept.ProcessorState → ℕ → ProcessorState
lane_of l at = record {
  registers = registers_of l.registers;
  at = at;
  private = window_memory l.private;
  written = l.written;
  off = l.off;
  spills = slice_index l.spills;
}

abbrev pub resume_of : kept_resume.Resume → Resume
resume_of kept_on.PastWord = PastWord
resume_of kept_on.SameWord = SameWord
resume_of (kept_on.ByLines need low high) = ByLines need low high

abbrev pub move_of : kept_move.Move → Move
move_of kept_to.Next = Next
move_of kept_to.Again = Again
move_of (kept_to.To k) = To (word_address k)
move_of (kept_to.Enters original) = Enters original
move_of (kept_to.Waits resume wants) =
    Waits (resume_of resume) (want_of wants.first) (others_of wants.other)
move_of (kept_to.Leaves exit) = Leaves exit

abbrev pub tally_of : kept_tally.Tally → Tally
tally_of kept_count.Nothing = Nothing_counted
tally_of kept_count.FalseMiss = FalseMiss
tally_of kept_count.FallsBack = FallsBack

-- what a word leaves of the processor and of what words see
pub record LeavesBehind (outcome : WordOutcome) (ground : Ground) (at : ℕ)
    (l : kept.ProcessorState) (s : Shelf) : Type 0 where
  pub lane : lane_of l at ≡ outcome.lane
  pub local : local_of s ≡ outcome.local
  pub ground_same : ground_of s ≡ ground

-- what a word did is what the definition says
pub record Does (outcome : WordOutcome) (ground : Ground) (at : ℕ) (l : kept.ProcessorState)
    (s : Shelf) (done : kept_outcome.WordOutcome) : Type 0 where
  pub leaves : LeavesBehind outcome ground at l s
  pub output : done.output ≡ outcome.printed
  pub tally : tally_of done.tally ≡ outcome.tally
  pub move : move_of done.next ≡ outcome.move

-- a word that prints and counts nothing, after which the word at an address follows
pub record Follows (image : List Cell) (outcome : WordOutcome) (ground : Ground) (at : ℕ)
    (l : kept.ProcessorState) (s : Shelf) : Type 0 where
  pub lane : lane_of l at ≡ lane_after image outcome.lane outcome.move
  pub local : local_of s ≡ outcome.local
  pub ground_same : ground_of s ≡ ground
  pub output : outcome.printed ≡ None
  pub tally : outcome.tally ≡ Nothing_counted
  pub phase : (budget executed : ℕ)
      → phase_after budget executed outcome.move ≡ stop_at budget executed
  pub wants : wants_of outcome.move ≡ []

-- what a micro-op at an index does: either nothing, and the path that serves every word is to serve
-- it; or what the word does, and the word with this index follows
abbrev pub StepsTo : List Cell → Meaning → ℕ → (l : kept.ProcessorState) (s : Shelf)
    → (l' : kept.ProcessorState) (s' : Shelf) → Option ℕ → Type 0
StepsTo image meaning at l s l' s' None = (l' ≡ l) × (s' ≡ s)
StepsTo image (Demands d) at l s l' s' (Some k) =
    (place : ℕ) → Follows image
    (native (program_of s.program) place (word_address at) (lane_of l (word_address at))
    (local_of s) d) (ground_of s) (word_address k) l' s'
StepsTo image (EntersBy original) at l s l' s' (Some k) =
    (place : ℕ) → Follows image
    (indirect place (lane_of l (word_address at)) (local_of s) 0 original)
    (ground_of s) (word_address k) l' s'
StepsTo image Unserved at l s l' s' (Some k) = ⊥

-- the phase after a word, by what follows it
abbrev pub phase_by : ℕ → ℕ → kept_following.Following → Phase
phase_by budget executed kept_after.GoesOn = stop_at budget executed
phase_by budget executed (kept_after.Waits resume wants) = Waiting (resume_of resume)
phase_by budget executed (kept_after.Leaves e) = Ended (Exited e)

-- the wants of a word, by what follows it
abbrev pub wants_by : kept_following.Following → List Want
wants_by kept_after.GoesOn = []
wants_by (kept_after.Waits resume wants) = all_wants wants
wants_by (kept_after.Leaves e) = []

-- the word was served, and its move was made
pub record Serves (image : List Cell) (outcome : WordOutcome) (ground : Ground)
    (counts : NodeCounts) (l : kept.ProcessorState) (s : Shelf) (after : NodeCounts)
    (done : kept_served.Served) : Type 0 where
  pub lane : lane_of l (word_address done.at) ≡ lane_after image outcome.lane outcome.move
  pub local : local_of s ≡ outcome.local
  pub ground_same : ground_of s ≡ ground
  pub output : done.output ≡ outcome.printed
  pub counts_after : after ≡ counts_after outcome.tally counts
  pub phase : (budget executed : ℕ)
      → phase_by budget executed done.following ≡ phase_after budget executed outcome.move
  pub wants : wants_by done.following ≡ wants_of outcome.move

-- a word was executed, after which the word with an index follows; or nothing changed
abbrev pub StepsOr : List Cell → WordOutcome → kept.ProcessorState → Shelf → kept.ProcessorState
    → Shelf → Option ℕ → Type 0
StepsOr image outcome l s l' s' None = (l' ≡ l) × (s' ≡ s)
StepsOr image outcome l s l' s' (Some k) =
    Follows image outcome (ground_of s) (word_address k) l' s'
