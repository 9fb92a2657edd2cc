-- The plan that a file says, and where it says none that rewritten code may rest on.
use Rattle.std.specs.Prelude.{◌≡◌, ◌≢◌, ℕ, ◌*◌, List, Contains, Option, Some, length, take, drop, slice_get}
use Rattle.std.specs.List.Sorted.{IsStrictlyIncreasing}
use Rattle.rv32_decode.specs.declared.Instr.{Instr}
use Rattle.elf32_read.specs.Elf.{Elf}
use Rattle.templates.specs.declared.plans.PlanEntry.{PlanEntry}
use Rattle.templates.specs.Places.{HasPlaces}
use Rattle.templates.specs.Plans.{Serves, RunsApart, addresses}
use Rattle.templates.specs.Runs.{IsInRun}
use Rattle.rewriter.specs.RewrittenFile.{entry_bytes, plan_bytes, plan_section}
use Rattle.rewrite_verify.specs.Sections.{HasOnly}

-- the numbers are the places of this code, in ascending order
pub record ArePlaces (code : ℕ → Option Instr) (places : List ℕ) : Type 0 where
  pub ascends : IsStrictlyIncreasing places
  pub each : HasPlaces code places

-- the file has one section of a plan, with the bytes of this plan, whose entries are those of the
-- places, in ascending order
pub record SaysPlan (code : ℕ → Option Instr) (e : Elf) (plan : List PlanEntry) : Type 0 where
  pub places : ArePlaces code (addresses plan)
  pub says : HasOnly e.sections (plan_section (plan_bytes plan))

-- the file has no section of a plan, or more than one, or not eight bytes for each place
pub record HasNoPlan (code : ℕ → Option Instr) (e : Elf) : Type 0 where
  pub places : List ℕ
  pub are_places : ArePlaces code places
  pub none : (bytes : List ℕ) → HasOnly e.sections (plan_section bytes)
      → length bytes ≢ 8 * length places

-- the bytes of the place of a number
abbrev pub place_bytes : List ℕ → ℕ → List ℕ
place_bytes bytes k = take 8 (drop (8 * k) bytes)

-- the run that starts at the entry's place shares an address with that of an earlier one
pub record MeetsRun (front : List PlanEntry) (e : PlanEntry) : Type 0 where
  pub earlier : PlanEntry
  pub member : Contains front earlier
  pub shared : ℕ
  pub in_earlier : IsInRun earlier shared
  pub in_this : IsInRun e shared

-- the first bytes say these entries of the first places, each of which serves its place, and none
-- of whose runs shares an address with another's
pub record IsGoodFront (code : ℕ → Option Instr) (places bytes : List ℕ) (front : List PlanEntry)
    : Type 0
  where
    pub of_places : addresses front ≡ take (length front) places
    pub says : plan_bytes front ≡ take (8 * length front) bytes
    pub serves : (e : PlanEntry) → Contains front e → Serves code e
    pub apart : RunsApart front

-- this is the lowest place whose bytes are those of no entry that serves it, or whose run shares an
-- address with an earlier one
pub record IsFirstBadPlace (code : ℕ → Option Instr) (places bytes : List ℕ) (a : ℕ) : Type 0
  where
    pub front : List PlanEntry
    pub good : IsGoodFront code places bytes front
    pub there : slice_get places (length front) ≡ Some a
    pub bad : (e : PlanEntry) → e.address ≡ a
        → entry_bytes e ≡ place_bytes bytes (length front) → Serves code e → MeetsRun front e

-- the file has one section of a plan, with eight bytes for each place, and this is the lowest place
-- whose bytes are bad
pub record HasBadPlan (code : ℕ → Option Instr) (e : Elf) (a : ℕ) : Type 0 where
  pub places : List ℕ
  pub bytes : List ℕ
  pub are_places : ArePlaces code places
  pub says : HasOnly e.sections (plan_section bytes)
  pub long : length bytes ≡ 8 * length places
  pub bad : IsFirstBadPlace code places bytes a
