-- What words count that are executed, one after another.
use Rattle.std.specs.Prelude.{◌≡◌, ℕ, ◌+◌, ◌≤◌, ◌==◌, Bool, List, ◌∷◌, All, Option, map, filter, length}
use Rattle.std.specs.List.{count_by, flat_map, range_with_len}
use Rattle.rv32_decode.specs.declared.Instr.{Instr}
use Rattle.templates.specs.declared.plans.PlanEntry.{PlanEntry}
use Rattle.elf_symbols.specs.Symbols.{Symbol}
use Rattle.check_costs.specs.declared.kinds.WordKind.{WordKind}
use Rattle.check_costs.specs.declared.kinds.WordKind.TheVariants.{Jump}
use Rattle.check_costs.specs.declared.labels.Label.{Label}
use Rattle.check_costs.specs.declared.counts.WordCounts.{WordCounts}
use Rattle.check_costs.specs.Kinds.{kinds_of}
use Rattle.check_costs.specs.Counts.{counts_by, function_of, total, by_kind}

-- 1. Labels

abbrev pub label_in : (function : ℕ) → WordKind → Label
label_in f kind = record { function = f; kind = kind }

-- those of the words of an entry, which are in the function that has its place
abbrev pub labels_at : List Symbol → (ℕ → Option Instr) → PlanEntry → List Label
labels_at symbols code e = map (label_in (function_of symbols e.address)) (kinds_of code e)

-- word 0, where jumps go that lead to no place, is in no function
abbrev pub first_label : List Symbol → Label
first_label symbols = label_in (length symbols) Jump

-- those of all words of rewritten code, in their order
abbrev pub labels_of : List Symbol → (ℕ → Option Instr) → List PlanEntry → List Label
labels_of symbols code plan = first_label symbols ∷ flat_map (labels_at symbols code) plan

-- 2. Words that are executed

-- a word, by its label, and whether it committed a step of the original
pub record Executed : Type 0 where
  pub label : Label
  pub commits : Bool

-- those of a function
abbrev pub executed_in : (function : ℕ) → List Executed → List Executed
executed_in f words = filter (λ w. w.label.function == f) words

-- how many steps of the original they committed
abbrev pub steps_in : List Executed → ℕ
steps_in words = count_by (λ w. w.commits) words

abbrev pub kinds_executed : List Executed → List WordKind
kinds_executed words = map (λ w. w.label.kind) words

abbrev pub tally_in : List Executed → (function : ℕ) → WordCounts
tally_in words f =
    counts_by (steps_in (executed_in f words)) (kinds_executed (executed_in f words))

-- what they count in each of so many functions, and last in none
abbrev pub tally_of : (functions : ℕ) → List Executed → List WordCounts
tally_of n words = map (tally_in words) (range_with_len 0 (n + 1))

-- 3. Their sums

-- they count each word once, and each step; and of each function the words of all kinds are its
-- words
pub record AreTotals (words : List Executed) (counts : List WordCounts) : Type 0 where
  pub words_are : (total counts).words ≡ length words
  pub steps_are : (total counts).instructions ≡ steps_in words
  pub kinds_are : All (λ c. by_kind c ≡ c.words) counts

-- each is of one of so many functions, or of none
abbrev pub AreWithin : (functions : ℕ) → List Executed → Type 0
AreWithin n words = All (λ w. w.label.function ≤ n) words
