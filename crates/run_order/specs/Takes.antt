-- What the journal of a node says of the messages that it took.
use Rattle.std.specs.Prelude.{ℕ, ◌+◌, ◌<◌, ◌≤◌, List, [], ◌∷◌}
use Rattle.node_model.specs.declared.Entry.{Entry as JournalEntry}

-- A message from one of n nodes, taken after the stamp of the node's last take: each of the words
-- executed since then, and the take itself, have stamps of their own, of which none is above the
-- most.
pub record IsTakeWithin (n last most : ℕ) (e : JournalEntry) : Type 0 where
  pub from : e.from < n
  pub behind : last + e.words + 1 ≤ e.stamp
  pub within : e.stamp ≤ most

-- the takes of a node, one after another
abbrev pub AreTakesWithin : (n last most : ℕ) → List JournalEntry → Type 0
AreTakesWithin n last most [] = Unit {0}
AreTakesWithin n last most (e ∷ es) =
    IsTakeWithin n last most e × AreTakesWithin n e.stamp most es
