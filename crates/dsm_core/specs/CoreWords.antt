-- Words of one node of a core, one after another.
use Rattle.std.specs.Prelude.{◌≡◌, ℕ, zero, suc, ◌+◌, ◌<◌}
use Rattle.run_order.specs.node_model.Node.{Node, Work}
use Rattle.node_machine.specs.Runs.{GoesOnBy as NodeGoesOnBy}
use Rattle.run_order.specs.node_model.Turns.{silent, word_turn}
use Rattle.run_order.specs.node_model.Core.{Core, Exec, May, AreAlike, event_step}

-- so many words of node i, each of which prints nothing and sends nothing, lead from one core to
-- another
abbrev pub GoesOnBy : Work → (i words : ℕ) → Core → Core → Type 0
GoesOnBy work i zero c d = c ≡ d
GoesOnBy work i (suc k) c d =
    May work c (Exec i) × (word_turn work (c.nodes i) ≡ silent (word_turn work (c.nodes i)).node)
    × GoesOnBy work i k (event_step work c (Exec i)) d

-- node i has executed so many words, of which those before the last print nothing and send nothing
pub record HasExecutedOn (work : Work) (i words : ℕ) (c d : Core) : Type 0 where
  pub before : ℕ
  pub count : words ≡ before + 1
  pub last : Core
  pub goes_on : GoesOnBy work i before c last
  pub may : May work last (Exec i)
  pub event : AreAlike work.layout.nodes d (event_step work last (Exec i))

-- node i has executed a word that printed nothing and sent nothing, and may execute another
pub record HasPassed (work : Work) (i : ℕ) (c d : Core) : Type 0 where
  pub silent : word_turn work (c.nodes i) ≡ silent (word_turn work (c.nodes i)).node
  pub event : AreAlike work.layout.nodes d (event_step work c (Exec i))
  pub may : May work d (Exec i)

-- node i has executed so many words, each of which printed nothing and sent nothing, and may
-- execute another
pub record HasPassedWords (work : Work) (i words : ℕ) (c d : Core) : Type 0 where
  pub last : Core
  pub goes_on : GoesOnBy work i words c last
  pub alike : AreAlike work.layout.nodes d last
  pub may : May work d (Exec i)

-- each node has executed so many words, by number, of which each printed nothing and sent nothing,
-- and what may execute a word still may
pub record HaveEachPassed (work : Work) (words : ℕ → ℕ) (c d : Core) : Type 0 where
  pub nodes : (i : ℕ) → i < work.layout.nodes → NodeGoesOnBy work (words i) (c.nodes i) (d.nodes i)
  pub may : (i : ℕ) → May work c (Exec i) → May work d (Exec i)
  pub lists : (j i : ℕ) → j < work.layout.nodes → i < work.layout.nodes → d.list j i ≡ c.list j i

-- what a loop learns of so many next words of each node below a number, by number: it goes from the
-- first node to the last
abbrev pub LearnsBelow : {L : Type 0} → (Work → ℕ → Node → L → L → Type 0) → Work
    → (words : ℕ → ℕ) → ℕ → Core → (old new : L) → Type 0
LearnsBelow learns work words zero c l m = l ≡ m
LearnsBelow {L} learns work words (suc k) c l m =
    (here : L) × LearnsBelow learns work words k c l here × learns work (words k) (c.nodes k) here m
