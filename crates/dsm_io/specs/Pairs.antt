-- Names and contents in a list of pairs, of which the first of a name counts.
use Rattle.std.specs.Prelude.{◌≡◌, ◌≢◌, ℕ, List, [], Option, Some, bytes_eq, unwrap_or, find}
use Rattle.std.specs.Option.{option_map}

-- the content of the first pair of the name
abbrev pub first_content : List (List ℕ × List ℕ) → List ℕ → Option (List ℕ)
first_content pairs name = option_map (λ p. p.1) (find (λ p. bytes_eq p.0 name) pairs)

-- what the name holds, which is nothing where it has no pair
abbrev pub content_of : List (List ℕ × List ℕ) → List ℕ → List ℕ
content_of pairs name = unwrap_or (first_content pairs name) []

-- the name now has these bytes, and each other name what it had
pub record Writes (before now : List (List ℕ × List ℕ)) (name bytes : List ℕ) : Type 0 where
  pub written : first_content now name ≡ Some bytes
  pub others : (n : List ℕ) → n ≢ name → first_content now n ≡ first_content before n
