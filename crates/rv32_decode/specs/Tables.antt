-- What a table has beside a code.
use Rattle.std.specs.Prelude.{ℕ, ◌==◌, ◌&&◌, List, Option, find}
use Rattle.std.specs.Option.{option_map}

-- the entry of a code
abbrev pub entry : {A : Type 0} → List (ℕ × A) → ℕ → Option A
entry table code = option_map (λ t. t.1) (find (λ t. code == t.0) table)

-- the entry of two codes
abbrev pub entry_of_two : {A : Type 0} → List (ℕ × ℕ × A) → ℕ → ℕ → Option A
entry_of_two table first second =
    option_map (λ t. t.2) (find (λ t. (first == t.0) && (second == t.1)) table)
