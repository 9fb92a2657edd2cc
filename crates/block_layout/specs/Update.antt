-- A function with another value at one place.
use Rattle.std.specs.Prelude.{ℕ, ◌==◌, if◌then◌else◌}

abbrev pub changed : {A : Type 0} → (ℕ → A) → ℕ → A → ℕ → A
changed f i x k = if k == i then x else f k
