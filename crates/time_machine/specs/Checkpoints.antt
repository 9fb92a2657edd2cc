-- Helps the code alone: copies of the processors at positions of a run.
use Rattle.std.specs.Prelude.{◌≡◌, ℕ, ◌+◌, ◌<◌, ◌≤◌, List, Some, length, slice_get}
use Rattle.one_memory.specs.Machine.{Parts, original_of, state_of}
use Rattle.time_machine.specs.declared.checkpoints.Checkpoint.{Checkpoint}
use Rattle.time_machine.specs.Stand.{Run, original_in, state_at}

-- the processors of a run, after the picks up to a position
pub record IsAt (r : Run) (position : ℕ) (m : Parts) : Type 0 where
  pub original : original_of m ≡ original_in r
  pub state : state_of m ≡ state_at r position
  pub within : position ≤ length r.picks

abbrev pub IsOfRun : Run → Checkpoint → Type 0
IsOfRun r c = IsAt r c.position c.machine

abbrev pub AreOfRun : Run → List Checkpoint → Type 0
AreOfRun r each = (j : ℕ) (c : Checkpoint) → slice_get each j ≡ Some c → IsOfRun r c

-- each from a place on lies after a position
abbrev pub AreBehind : List Checkpoint → (from position : ℕ) → Type 0
AreBehind each from position =
    (j : ℕ) (c : Checkpoint) → from ≤ j → slice_get each j ≡ Some c → position < c.position

-- the last one that doesn't lie after a position
pub record IsNearest (each : List Checkpoint) (position : ℕ) (c : Checkpoint) : Type 0 where
  pub place : ℕ
  pub there : slice_get each place ≡ Some c
  pub before : c.position ≤ position
  pub last : AreBehind each (place + 1) position
