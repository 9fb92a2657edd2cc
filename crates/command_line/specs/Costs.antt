-- The range of the costs of a run by a clock.
use Rattle.std.specs.Prelude.{ℕ}
use Rattle.run_limits.specs.Ranges.{IsWithin}

-- in the time of one word
abbrev pub IsCost : ℕ → Type 0
IsCost number = IsWithin 0 1000000 number
