-- The runs of a plan, an entry at a time.
use Rattle.std.specs.Prelude.{◌≡◌, ◌≢◌, ℕ, ◌+◌, ◌*◌, ◌<◌, ◌≤◌, ◌==◌, if◌then◌else◌, Option}
use Rattle.rv32_decode.specs.declared.Instr.{Instr}
use Rattle.templates.specs.declared.plans.PlanEntry.{PlanEntry}
use Rattle.templates.specs.Plans.{no_scratches}
use Rattle.templates.specs.Runs.{IsRun, reach_at}
use Rattle.templates.specs.WholePlan.{IsLongestRun, IsRunChoice}

-- the entry but for its run
abbrev pub without_run : PlanEntry → PlanEntry
without_run e = record e { run = 0; batch = no_scratches }

-- where a run may start after an entry, where it might from this address on before it
abbrev pub behind : PlanEntry → ℕ → ℕ
behind e free = if e.run == 0 then free else e.address + 4 * e.run

-- the entry's run is the longest from its place on, unless that lies below where a run may start
pub record HasRunFrom (code : ℕ → Option Instr) (free : ℕ) (e : PlanEntry) : Type 0 where
  pub later : e.address < free → e.run ≡ 0
  pub longest : free ≤ e.address → IsLongestRun code e.address e.run
  pub none : e.run ≡ 0 → e.batch ≡ no_scratches
  pub scratches : e.run ≢ 0
      → IsRunChoice code e.address (reach_at code e.address e.run).base e.batch

-- so many code words from an address on are a run, with accesses by this base register
pub record IsRunBy (code : ℕ → Option Instr) (a count base : ℕ) : Type 0 where
  pub run : IsRun code a count
  pub by : base ≡ (reach_at code a count).base
