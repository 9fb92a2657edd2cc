-- Words of each node of a core that are tallied, and how many of them count.
use Rattle.std.specs.Prelude.{ℕ, zero, suc, ◌+◌, ◌<◌, List}
use Rattle.word_visits.specs.Tallies.{AreTallied, WordTally, steps_of}
use Rattle.dsm_core.specs.node_model.Node.{Work}
use Rattle.dsm_core.specs.node_model.Core.{Core}

-- of each node so many next words, by number, are tallied
abbrev pub AreEachTallied : Work → (words : ℕ → ℕ) → Core → List WordTally → Type 0
AreEachTallied work words c ts =
    (i : ℕ) → i < work.layout.nodes → AreTallied work (words i) (c.nodes i) ts

-- how many of so many next words of each node below a number count
abbrev pub steps_below : Work → (words : ℕ → ℕ) → ℕ → Core → List WordTally → ℕ
steps_below work words zero c ts = 0
steps_below work words (suc k) c ts =
    steps_below work words k c ts + steps_of work (words k) (c.nodes k) ts
