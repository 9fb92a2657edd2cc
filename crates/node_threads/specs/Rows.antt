-- Rows of links and of outboxes, an entry for each node.
use Rattle.std.specs.Prelude.{ℕ, zero, suc, List, [], ◌∷◌}

module _ {A W : Type 0} where
  -- the wires of the entry for node k, and none past the end
  abbrev pub wires_at : (A → List W) → List A → ℕ → List W
  wires_at f [] k = []
  wires_at f (x ∷ xs) zero = f x
  wires_at f (x ∷ xs) (suc k) = wires_at f xs k
