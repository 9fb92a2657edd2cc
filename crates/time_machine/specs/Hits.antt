-- Helps the code alone: the last pick that hits a stop.
use Rattle.std.specs.Prelude.{◌≡◌, ℕ, ◌<◌, ◌≤◌, List, Option, Some, None}
use Rattle.rv32_step.specs.OneMemory.{Pick, Step, Break}
use Rattle.time_machine.specs.declared.run.Hit.{Hit}
use Rattle.time_machine.specs.declared.stops.StopPoint.{StopPoint}
use Rattle.time_machine.specs.Stand.{Run}
use Rattle.time_machine.specs.Stops.{hit_at}
use Rattle.time_machine.specs.Moves.{IsLastHit}

-- the processor of a step is one of so many
abbrev pub IsOfOne : (processors : ℕ) → Pick → Type 0
IsOfOne n (Step p) = p < n
IsOfOne n (Break p q) = Unit {0}

-- of the picks from one position up to another
abbrev pub IsLatest : Run → List StopPoint → (from before : ℕ) → Option Hit → Type 0
IsLatest r stops from before None = (k : ℕ) → from ≤ k → k < before → hit_at r stops k ≡ None
IsLatest r stops from before (Some h) = IsLastHit r stops before h.stop h.pick

abbrev pub later : Option Hit → (k : ℕ) → Option ℕ → Option Hit
later latest k None = latest
later latest k (Some stop) = Some (record { pick = k; stop = stop })
