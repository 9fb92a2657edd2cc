-- The ranges of the numbers that limit a run.
use Rattle.std.specs.Prelude.{ℕ, ◌^◌, ◌≤◌}

-- a number of a range, both of whose ends belong to it
abbrev pub IsWithin : (low high number : ℕ) → Type 0
IsWithin low high number = (low ≤ number) × (number ≤ high)

-- so many words or steps a processor may execute
abbrev pub IsBudget : ℕ → Type 0
IsBudget number = IsWithin 1 (2 ^ 32) number

-- so many nodes a run may have
abbrev pub IsNodeCount : ℕ → Type 0
IsNodeCount number = IsWithin 1 16 number

-- so many processors each node may have, where it has several
abbrev pub IsLaneCount : ℕ → Type 0
IsLaneCount number = IsWithin 2 4 number
