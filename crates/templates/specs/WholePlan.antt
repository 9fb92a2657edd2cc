-- The plan of a program: the template of each place, its scratch registers, of which those that are
-- dead are taken first, and whether it polls; and the runs, where batches are wanted. A program has
-- exactly one with runs, and one without.
use Rattle.std.specs.Prelude.{◌≡◌, ◌≢◌, ℕ, ◌<◌, ◌≤◌, ◌↔◌, Bool, true, false, IsTrue, ◌==◌, not, ◌||◌, List, ◌++◌, Option, Some, None, map, filter, take, slice_index_or, Contains}
use Rattle.std.specs.List.{list_any, range_with_len}
use Rattle.std.specs.Option.{option_map_or}
use Rattle.rv32_decode.specs.Registers.{sources, destination}
use Rattle.rv32_decode.specs.declared.Instr.{Instr}
use Rattle.rv32_program.specs.Liveness.{IsDeadAfter, IsDeadAt}
use Rattle.templates.specs.declared.plans.Scratch.{Scratch}
use Rattle.templates.specs.declared.plans.Scratches.{Scratches}
use Rattle.templates.specs.declared.plans.PlanEntry.{PlanEntry}
use Rattle.templates.specs.Places.{HasPlaces}
use Rattle.templates.specs.Plans.{template_of, template_at, closes_loop_at, scratch_count, no_scratch, no_scratches, AscendsFrom, addresses, StartsNoRun}
use Rattle.templates.specs.Runs.{IsRun, IsInRun, reach_at}

-- the register is one of the instruction's own
abbrev pub is_own : Instr → ℕ → Bool
is_own i r = list_any (λ q. r == q) (sources i) || option_map_or (λ q. r == q) (destination i) false

-- the registers other than x0 and the instruction's own, ascending
abbrev pub candidates : Instr → List ℕ
candidates i = filter (λ r. not (is_own i r)) (range_with_len 1 31)

abbrev pub spilled : ℕ → Scratch
spilled r = record { register = r; spilled = true }

abbrev pub unspilled : ℕ → Scratch
unspilled r = record { register = r; spilled = false }

-- the order in which candidates are taken: first the dead ones, which needn't be spilled, then the
-- others, which are
abbrev pub in_order : (ℕ → Bool) → List ℕ → List Scratch
in_order dead registers =
    map unspilled (filter dead registers) ++ map spilled (filter (λ r. not (dead r)) registers)

-- s, t and u are the first, the second and the third
abbrev pub scratches_of : List Scratch → Scratches
scratches_of xs = record {
  s = slice_index_or xs 0 no_scratch;
  t = slice_index_or xs 1 no_scratch;
  u = slice_index_or xs 2 no_scratch;
}

-- the scratch registers are the first so many candidates, of which those that are dead after the
-- instruction at a come first
pub record IsChoice (code : ℕ → Option Instr) (a : ℕ) (i : Instr) (count : ℕ) (x : Scratches)
    : Type 0
  where
    pub dead : ℕ → Bool
    pub dead_is : (r : ℕ) → Contains (candidates i) r → (IsTrue (dead r) ↔ IsDeadAfter code r a i)
    pub chosen : x ≡ scratches_of (take count (in_order dead (candidates i)))

-- the scratch registers of a place's single sequence: as many as its template takes
abbrev pub IsSingle : (ℕ → Option Instr) → ℕ → Option Instr → Scratches → Type 0
IsSingle code a None x = x ≡ no_scratches
IsSingle code a (Some i) x = IsChoice code a i (scratch_count (template_of i a)) x

-- the entry of a place, which polls or doesn't, but for its run
pub record IsEntry (code : ℕ → Option Instr) (polling : Bool) (e : PlanEntry) : Type 0 where
  pub template : e.template ≡ template_at e.address (code e.address)
  pub single : IsSingle code e.address (code e.address) e.single
  pub polls : e.polls ≡ polling

-- an entry for each place of this code, in ascending order, that polls at these addresses
pub record HasEntries (code : ℕ → Option Instr) (polling : ℕ → Bool) (plan : List PlanEntry)
    : Type 0
  where
    pub ascends : AscendsFrom 0 plan
    pub places : HasPlaces code (addresses plan)
    pub each : (e : PlanEntry) → Contains plan e → IsEntry code (polling e.address) e

-- the registers other than x0 and the base, ascending
abbrev pub run_candidates : ℕ → List ℕ
run_candidates base = filter (λ r. not (r == base)) (range_with_len 1 31)

-- the scratch registers of a run by this base that starts at a are the first three candidates, of
-- which those that are dead at its first instruction come first
pub record IsRunChoice (code : ℕ → Option Instr) (a base : ℕ) (x : Scratches) : Type 0 where
  pub dead : ℕ → Bool
  pub dead_is : (r : ℕ) (i : Instr) → Contains (run_candidates base) r → code a ≡ Some i
      → (IsTrue (dead r) ↔ IsDeadAt code r a i)
  pub chosen : x ≡ scratches_of (take 3 (in_order dead (run_candidates base)))

-- the longest run from an address on has so many words; 0 where there is none
pub record IsLongestRun (code : ℕ → Option Instr) (a count : ℕ) : Type 0 where
  pub run : count ≢ 0 → IsRun code a count
  pub longest : (n : ℕ) → IsRun code a n → n ≤ count

-- an address lies in a run of the plan that starts below it
pub record IsInEarlierRun (plan : List PlanEntry) (a : ℕ) : Type 0 where
  pub entry : PlanEntry
  pub member : Contains plan entry
  pub earlier : entry.address < a
  pub inside : IsInRun entry a

-- the entry's run in the plan: the longest from its place on, unless that lies in an earlier run
pub record IsRunEntry (code : ℕ → Option Instr) (plan : List PlanEntry) (e : PlanEntry) : Type 0
  where
    pub later : IsInEarlierRun plan e.address → e.run ≡ 0
    pub longest : (IsInEarlierRun plan e.address → ⊥) → IsLongestRun code e.address e.run
    pub none : e.run ≡ 0 → e.batch ≡ no_scratches
    pub scratches : e.run ≢ 0
        → IsRunChoice code e.address (reach_at code e.address e.run).base e.batch

-- the runs of a plan are found in ascending order; without batches there is none
abbrev pub HasRuns : Bool → (ℕ → Option Instr) → List PlanEntry → Type 0
HasRuns true code plan = (e : PlanEntry) → Contains plan e → IsRunEntry code plan e
HasRuns false code plan = (e : PlanEntry) → Contains plan e → StartsNoRun e

-- the plan of this code's checks: no place polls as yet, and no run starts
pub record IsCheckPlan (code : ℕ → Option Instr) (plan : List PlanEntry) : Type 0 where
  pub entries : HasEntries code (λ a. false) plan
  pub runs : HasRuns false code plan

-- the plan of this code, with batches or without: a place polls where a loop may close
pub record IsPlanOf (batches : Bool) (code : ℕ → Option Instr) (plan : List PlanEntry) : Type 0
  where
    pub entries : HasEntries code (λ a. closes_loop_at a (code a)) plan
    pub runs : HasRuns batches code plan
