-- Where a move ends.
use Rattle.std.specs.Prelude.{◌≡◌, ℕ, ◌+◌, ◌<◌, ◌≤◌, List, Option, Some, None}
use Rattle.time_machine.specs.declared.stops.StopPoint.{StopPoint}
use Rattle.time_machine.specs.Stand.{Run}
use Rattle.time_machine.specs.Stops.{hit_at, met_behind}

-- Forwards from one position, stop i is the first that is met: at another position, after the last
-- pick that is made.
pub record IsFirstMet (r : Run) (stops : List StopPoint) (from to i position : ℕ) : Type 0 where
  pub last : ℕ
  pub behind : position ≡ last + 1
  pub from_there : from ≤ last
  pub within : last < to
  pub meets : met_behind r stops last ≡ Some i
  pub first : (k : ℕ) → from ≤ k → k < last → met_behind r stops k ≡ None

-- Forwards from one position, up to another: a run ends at the first stop that it meets, or it
-- meets none up to there.
abbrev pub EndsForward : Run → List StopPoint → (from to : ℕ) → Option ℕ → (position : ℕ) → Type 0
EndsForward r stops from to None position =
    (position ≡ to) × ((k : ℕ) → from ≤ k → k < to → met_behind r stops k ≡ None)
EndsForward r stops from to (Some i) position = IsFirstMet r stops from to i position

-- before a position, this pick is the last that hits a stop, and stop i is the first that it hits
pub record IsLastHit (r : Run) (stops : List StopPoint) (before i k : ℕ) : Type 0 where
  pub earlier : k < before
  pub hits : hit_at r stops k ≡ Some i
  pub last : (j : ℕ) → k < j → j < before → hit_at r stops j ≡ None

-- Backwards from a position: a run ends before the last pick that hits a stop, or at its start,
-- where no pick does.
abbrev pub EndsBackward : Run → List StopPoint → (from : ℕ) → Option ℕ → (position : ℕ) → Type 0
EndsBackward r stops from None position =
    (position ≡ 0) × ((k : ℕ) → k < from → hit_at r stops k ≡ None)
EndsBackward r stops from (Some i) position = IsLastHit r stops from i position
