-- Calls that are to fail, by their numbers.
use Rattle.std.specs.Prelude.{ℕ, List, Contains}
use Rattle.dsm_io.specs.Causes.{next_count}

-- the numbers of the calls that are to fail, how many calls were made, and how many faults there
-- were
pub record Schedule : Type 0 where
  pub fails : List ℕ
  pub calls : ℕ
  pub faults : ℕ

-- these calls are to fail, and none was made yet
abbrev pub schedule_of : List ℕ → Schedule
schedule_of fails = record { fails = fails; calls = 0; faults = 0 }

-- the next call is one of those that are to fail
abbrev pub IsDue : Schedule → Type 0
IsDue s = Contains s.fails (next_count s.calls)

-- the schedule after a call
abbrev pub after_call : Schedule → Schedule
after_call s = record { fails = s.fails; calls = next_count s.calls; faults = s.faults }

-- the schedule after a call that was a fault
abbrev pub after_fault : Schedule → Schedule
after_fault s = record { fails = s.fails; calls = next_count s.calls; faults = next_count s.faults }
