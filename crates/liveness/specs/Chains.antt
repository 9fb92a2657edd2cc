-- Helps the code alone: edges in chains.
use Rattle.std.specs.Prelude.{◌≡◌, ℕ, ◌+◌, ◌≤◌, List, get_or, length}

-- each edge is chained to an earlier one
abbrev pub Falls : List ℕ → Type 0
Falls links = (k : ℕ) → get_or links k 0 ≤ k

-- each chain begins at an edge
abbrev pub Within : List ℕ → List ℕ → Type 0
Within heads links = (b : ℕ) → get_or heads b 0 ≤ length links

-- edge e stands in the chain that begins with this number
pub data InChain (links : List ℕ) (e : ℕ) : ℕ → Type 0 where
  here : {h : ℕ} → h ≡ e + 1 → InChain links e h
  there : {h : ℕ} (k : ℕ) → h ≡ k + 1 → InChain links e (get_or links k 0) → InChain links e h

-- edge e leads into node b
abbrev pub IsInto : List ℕ → List ℕ → ℕ → ℕ → Type 0
IsInto heads links e b = InChain links e (get_or heads b 0)

-- each edge stands in the chain of the node that it stood in
abbrev pub StayInto : List ℕ → List ℕ → List ℕ → List ℕ → Type 0
StayInto old_heads old_links new_heads new_links =
    (e b : ℕ) → IsInto old_heads old_links e b → IsInto new_heads new_links e b
