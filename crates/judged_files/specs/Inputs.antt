-- What is read for a command.
use Rattle.std.specs.Prelude.{ℕ, Bool, List, [], Option, None, Some}

-- the bytes of the executable, and the text of the record or of the assembly, which are none where
-- a command reads none; those of the rewritten executable, of a verified one and of the layout,
-- where they are named; and whether code is rewritten with batches, where no record says so
pub record Inputs : Type 0 where
  pub executable : List ℕ
  pub code : Option (List ℕ)
  pub verified : Option (List ℕ)
  pub layout : Option (List ℕ)
  pub text : List ℕ
  pub batches : Bool

-- the bytes of a file, which are none where there is no file
abbrev pub bytes_in : (List ℕ → List ℕ) → Option (List ℕ) → List ℕ
bytes_in contents None = []
bytes_in contents (Some name) = contents name
