-- What contracts see of a source of bytes.
use Rattle.std.specs.Prelude.{◌≡◌, ℕ, List, [], ◌++◌, Option}
use Rattle.std.specs.Option.{option_map}
use Rattle.dsm_io.specs.Schedule.{Schedule}

-- a source: the bytes that are still to come, where they are told, and how often it has failed
pub record SourceState : Type 0 where
  pub rest : Option (List ℕ)
  pub faults : ℕ

-- these bytes came, in their order, and each once; what was hidden still is
abbrev pub Gives : Option (List ℕ) → (given : List ℕ) → Option (List ℕ) → Type 0
Gives before given now = before ≡ option_map (λ rest. given ++ rest) now

-- no more bytes come
abbrev pub IsAtEnd : Option (List ℕ) → Type 0
IsAtEnd rest = rest ≡ option_map (λ r. []) rest

-- a source in memory: the bytes that are still to come, and the calls that fail
pub record HeldBytes : Type 0 where
  pub rest : List ℕ
  pub schedule : Schedule
