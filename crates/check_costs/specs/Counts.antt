-- What rewritten code counts, function by function.
use Rattle.std.specs.Prelude.{◌≡◌, ℕ, ◌+◌, Bool, true, false, ◌&&◌, ◌==◌, if◌then◌else◌, List, [], ◌∷◌, ◌++◌, Option, is_some, map, filter, length}
use Rattle.std.specs.List.{count_by, flat_map, fold, position_or_len, range_with_len}
use Rattle.rv32_decode.specs.declared.Instr.{Instr}
use Rattle.templates.specs.declared.plans.PlanEntry.{PlanEntry}
use Rattle.templates.specs.declared.code.CodeWord.{CodeWord}
use Rattle.jump_map.specs.Image.{Cell}
use Rattle.elf_symbols.specs.Symbols.{Symbol, covers, begins_last}
use Rattle.check_costs.specs.declared.kinds.WordKind.{WordKind}
use Rattle.check_costs.specs.declared.kinds.WordKind.TheVariants.{Own, FlagCheck, StateCheck, StoreCheck, Batch, Poll, Jump, Spill}
use Rattle.check_costs.specs.declared.counts.WordCounts.{WordCounts}
use Rattle.check_costs.specs.Kinds.{kinds_of}

-- 1. The cost of words

abbrev pub is_kind : WordKind → WordKind → Bool
is_kind Own Own = true
is_kind FlagCheck FlagCheck = true
is_kind StateCheck StateCheck = true
is_kind StoreCheck StoreCheck = true
is_kind Batch Batch = true
is_kind Poll Poll = true
is_kind Jump Jump = true
is_kind Spill Spill = true
is_kind k other = false

-- how many words are of a kind
abbrev pub times : WordKind → List WordKind → ℕ
times k kinds = count_by (is_kind k) kinds

-- so many instructions of the original, and words of these kinds
abbrev pub counts_by : (instructions : ℕ) → List WordKind → WordCounts
counts_by instructions kinds = record {
  instructions = instructions;
  words = length kinds;
  own = times Own kinds;
  flag_checks = times FlagCheck kinds;
  state_checks = times StateCheck kinds;
  store_checks = times StoreCheck kinds;
  batches = times Batch kinds;
  polls = times Poll kinds;
  jumps = times Jump kinds;
  spills = times Spill kinds;
}

abbrev pub plus : WordCounts → WordCounts → WordCounts
plus c d = record {
  instructions = c.instructions + d.instructions;
  words = c.words + d.words;
  own = c.own + d.own;
  flag_checks = c.flag_checks + d.flag_checks;
  state_checks = c.state_checks + d.state_checks;
  store_checks = c.store_checks + d.store_checks;
  batches = c.batches + d.batches;
  polls = c.polls + d.polls;
  jumps = c.jumps + d.jumps;
  spills = c.spills + d.spills;
}

-- the words of all kinds
abbrev pub by_kind : WordCounts → ℕ
by_kind c =
    c.own + (c.flag_checks + (c.state_checks + (c.store_checks
    + (c.batches + (c.polls + (c.jumps + c.spills))))))

abbrev pub total : List WordCounts → WordCounts
total counts = fold plus (counts_by 0 []) counts

-- 2. The counts of functions

-- the function that has the byte at an address, by its number in the table; of none it is the number
-- after the last
abbrev pub function_of : List Symbol → (address : ℕ) → ℕ
function_of symbols a =
    position_or_len (λ s. covers a s && begins_last symbols a s) symbols

-- the entries whose places are in this function
abbrev pub entries_in : List Symbol → (function : ℕ) → List PlanEntry → List PlanEntry
entries_in symbols f plan = filter (λ e. function_of symbols e.address == f) plan

-- word 0, where jumps go that lead to no place, is in no function
abbrev pub kinds_before : List Symbol → (function : ℕ) → List WordKind
kinds_before symbols f = if f == length symbols then Jump ∷ [] else []

-- a place of the original's code
abbrev pub has_code : (ℕ → Option Instr) → PlanEntry → Bool
has_code code e = is_some (code e.address)

abbrev pub counts_in : List Symbol → (ℕ → Option Instr) → List PlanEntry → (function : ℕ)
    → WordCounts
counts_in symbols code plan f =
    counts_by (count_by (has_code code) (entries_in symbols f plan))
    (kinds_before symbols f ++ flat_map (kinds_of code) (entries_in symbols f plan))

-- those of all functions, in the order of the table, and last that of code in none
abbrev pub counts_of : List Symbol → (ℕ → Option Instr) → List PlanEntry → List WordCounts
counts_of symbols code plan =
    map (counts_in symbols code plan) (range_with_len 0 (length symbols + 1))

-- 3. Their sums

-- they count all words of rewritten code, and all code words
pub record AreSums (code : List CodeWord) (image : List Cell) (counts : List WordCounts) : Type 0
  where
    pub words : (total counts).words ≡ length image
    pub instructions : (total counts).instructions ≡ length code
