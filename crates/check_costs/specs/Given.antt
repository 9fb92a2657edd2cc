-- Helps the code alone: kinds in the order of the words, and what a sum has so far.
use Rattle.std.specs.Prelude.{◌≡◌, ℕ, ◌+◌, ◌<◌, if◌then◌else◌, List, ◌∷◌, ◌++◌, Option, length, replicate, slice_index_or}
use Rattle.rv32_decode.specs.declared.Instr.{Instr}
use Rattle.templates.specs.declared.places.Part.TheVariants.{Head, Fast, Fallback}
use Rattle.templates.specs.declared.plans.Template.{Template}
use Rattle.templates.specs.declared.plans.Scratches.{Scratches}
use Rattle.templates.specs.declared.plans.PlanEntry.{PlanEntry}
use Rattle.templates.specs.Counting.{spilled_count}
use Rattle.check_costs.specs.declared.kinds.WordKind.{WordKind}
use Rattle.check_costs.specs.declared.kinds.WordKind.TheVariants.{Own, Spill}
use Rattle.check_costs.specs.declared.counts.WordCounts.{WordCounts}
use Rattle.elf_symbols.specs.Symbols.{Symbol}
use Rattle.check_costs.specs.Kinds.{check_of, kinds_in}
use Rattle.check_costs.specs.Counts.{counts_in}
use Rattle.check_costs.specs.declared.tally.Tally.{Tally}
use Rattle.check_costs.specs.Tally.{Executed, tally_of}

-- an access after so many words of its check
abbrev pub access_kinds : Template → Scratches → (words : ℕ) → List WordKind
access_kinds t x words =
    replicate (spilled_count x) Spill
    ++ (replicate words (check_of t) ++ Own ∷ replicate (spilled_count x) Spill)

-- a load that looks at its value
abbrev pub flag_load_kinds : Template → Scratches → List WordKind
flag_load_kinds t x =
    replicate (if x.s.spilled then 1 else 0) Spill
    ++ (check_of t ∷ check_of t ∷ Own ∷ check_of t ∷ check_of t ∷ check_of t ∷ Own
    ∷ replicate (if x.s.spilled then 1 else 0) Spill)

abbrev pub kinds_of_batch : (ℕ → Option Instr) → PlanEntry → List WordKind
kinds_of_batch code e =
    kinds_in code e Head ++ (kinds_in code e Fast ++ kinds_in code e Fallback)

-- what these entries count, function by function, and code in none
pub record AreCountsOf (symbols : List Symbol) (code : ℕ → Option Instr) (es : List PlanEntry)
    (counts : List WordCounts) : Type 0
  where
    pub count : length counts ≡ length symbols + 1
    pub each : (f : ℕ) (d : WordCounts) → f < length symbols + 1
        → slice_index_or counts f d ≡ counts_in symbols code es f

-- these words were executed, of so many functions and of none
abbrev pub IsTallyOf : (functions : ℕ) → List Executed → Tally → Type 0
IsTallyOf n words t = t.counts.items ≡ tally_of n words
