-- Helps the code alone: a plan while it is read.
use Rattle.std.specs.Prelude.{◌≡◌, ◌≢◌, ℕ, ◌<◌, ◌≤◌, List, Contains, Option}
use Rattle.rv32_decode.specs.declared.Instr.{Instr}
use Rattle.elf32_read.specs.Elf.{Elf}
use Rattle.templates.specs.declared.plans.Scratches.{Scratches}
use Rattle.templates.specs.declared.plans.PlanEntry.{PlanEntry}
use Rattle.templates.specs.Plans.{Serves, RunsApart}
use Rattle.rewriter.specs.RewrittenFile.{entry_bytes}
use Rattle.rewrite_verify.specs.FilePlan.{SaysPlan, HasNoPlan, HasBadPlan, IsFirstBadPlace}
use Rattle.rewrite_verify.specs.declared.refused.VerifyRefused.{VerifyRefused}
use Rattle.rewrite_verify.specs.declared.refused.VerifyRefused.TheVariants.{NoPlan, BadPlan, OutOfMemory}

-- the scratch registers are registers
pub record AreRegisters (x : Scratches) : Type 0 where
  pub s : x.s.register < 32
  pub t : x.t.register < 32
  pub u : x.u.register < 32

-- these bytes say this entry of the place at an address
pub record SaysEntry (a : ℕ) (bytes : List ℕ) (e : PlanEntry) : Type 0 where
  pub address : e.address ≡ a
  pub says : entry_bytes e ≡ bytes
  pub single : AreRegisters e.single
  pub batch : AreRegisters e.batch

-- and it serves its place, and starts no run below where one may start
pub record IsNextEntry (code : ℕ → Option Instr) (free a : ℕ) (bytes : List ℕ) (e : PlanEntry)
    : Type 0
  where
    pub says : SaysEntry a bytes e
    pub serves : Serves code e
    pub behind : e.run ≢ 0 → free ≤ e.address

-- the bytes say no such entry of the place
pub record HasNoEntry (code : ℕ → Option Instr) (free a : ℕ) (bytes : List ℕ) : Type 0 where
  pub each : (e : PlanEntry) → e.address ≡ a → entry_bytes e ≡ bytes → Serves code e
      → (e.run ≢ 0) × (e.address < free)

-- the file says this plan, whose entries serve their places, and whose runs share no address
pub record IsGoodPlan (code : ℕ → Option Instr) (e : Elf) (plan : List PlanEntry) : Type 0 where
  pub says : SaysPlan code e plan
  pub serves : (f : PlanEntry) → Contains plan f → Serves code f
  pub apart : RunsApart plan

-- why these bytes say no such plan of these places
abbrev pub IsPlaceRefusal : (ℕ → Option Instr) → List ℕ → List ℕ → VerifyRefused → Type 0
IsPlaceRefusal code places bytes (BadPlan a) = IsFirstBadPlace code places bytes a
IsPlaceRefusal code places bytes OutOfMemory = Unit {0}
IsPlaceRefusal code places bytes refused = ⊥

-- why a file says no such plan
abbrev pub IsPlanRefusal : (ℕ → Option Instr) → Elf → VerifyRefused → Type 0
IsPlanRefusal code e NoPlan = HasNoPlan code e
IsPlanRefusal code e (BadPlan a) = HasBadPlan code e a
IsPlanRefusal code e OutOfMemory = Unit {0}
IsPlanRefusal code e refused = ⊥
