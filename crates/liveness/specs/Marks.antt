-- Helps the code alone: what waits, as a list and as flags.
use Rattle.std.specs.Prelude.{◌≡◌, ℕ, Bool, false, List, get_or, nat_eq, cond}
use Rattle.std.specs.List.{sum_by}

-- how often x stands in the list
abbrev pub times : ℕ → List ℕ → ℕ
times x queue = sum_by (λ y. cond (nat_eq x y) 1 0) queue

-- the list has each node once whose flag is set, and no other
abbrev pub Marks : List ℕ → List Bool → Type 0
Marks queue flags = (x : ℕ) → times x queue ≡ cond (get_or flags x false) 1 0
