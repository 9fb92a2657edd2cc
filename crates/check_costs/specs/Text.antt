-- The counts of functions as a table: those with most words added first, and their sum last.
use Rattle.std.specs.Prelude.{◌≡◌, ℕ, zero, suc, ◌+◌, ◌-◌, ◌*◌, ◌/◌, ◌^◌, ◌<◌, ◌≤◌, nat_lt, All, List, [], ◌∷◌, ◌++◌, codes, length, map, filter, replicate, slice_get, slice_index_or, Option, None, Some}
use Rattle.std.specs.Fmt.{decimal}
use Rattle.std.specs.List.{range_with_len}
use Rattle.std.specs.List.Sorted.{IsPermutation}
use Rattle.elf_symbols.specs.Shown.{shown_byte}
use Rattle.elf_symbols.specs.Symbols.{Symbol}
use Rattle.check_costs.specs.declared.counts.WordCounts.{WordCounts}
use Rattle.check_costs.specs.declared.table.Counted.{Counted}
use Rattle.check_costs.specs.declared.table.Counted.TheVariants.{Instructions, Steps}
use Rattle.check_costs.specs.declared.table.FunctionCounts.{FunctionCounts}
use Rattle.check_costs.specs.Counts.{counts_by, total}

-- 1. Lines

-- the words that the original hasn't
abbrev pub added : WordCounts → ℕ
added c = c.words - c.instructions

-- what the first column counts
abbrev pub first_column : Counted → List ℕ
first_column Instructions = codes "  instrs"
first_column Steps = codes "   steps"

-- what stands in the other columns
unfoldable pub columns : List ℕ
columns =
    codes "   words per 100     own    flag   state   store"
    ++ codes "   batch    poll    jump   spill  function\n"

-- the line that says what stands in all columns
abbrev pub head : Counted → List ℕ
head counted = first_column counted ++ columns

-- a text at the right of its column, after a space at least
abbrev pub column : List ℕ → List ℕ
column text = 32 ∷ (replicate (7 - length text) 32 ++ text)

abbrev pub number : ℕ → List ℕ
number n = column (decimal n)

-- the words for 100 instructions
abbrev pub per_hundred : (words instructions : ℕ) → List ℕ
per_hundred words zero = codes "-"
per_hundred words (suc n) = decimal (words * 100 / suc n)

-- the words of the original, and those that check its accesses
abbrev pub checks_text : WordCounts → List ℕ
checks_text c =
    number c.own ++ (number c.flag_checks ++ (number c.state_checks ++ number c.store_checks))

abbrev pub others_text : WordCounts → List ℕ
others_text c = number c.batches ++ (number c.polls ++ (number c.jumps ++ number c.spills))

abbrev pub numbers_text : WordCounts → List ℕ
numbers_text c =
    number c.instructions ++ (number c.words ++ (column (per_hundred c.words c.instructions)
    ++ (checks_text c ++ others_text c)))

-- the line of a sum
abbrev pub sum_line : WordCounts → List ℕ
sum_line c = numbers_text c ++ codes "  all code\n"

-- 2. Rows

abbrev pub name_or : Option Symbol → List ℕ
name_or None = codes "in no function"
name_or (Some s) = map shown_byte s.name

-- the name of a function, as it is shown
abbrev pub name_of : List Symbol → (function : ℕ) → List ℕ
name_of symbols f = name_or (slice_get symbols f)

abbrev pub row_line : List Symbol → FunctionCounts → List ℕ
row_line symbols r =
    numbers_text r.counts ++ (codes "  " ++ (name_of symbols r.function ++ codes "\n"))

abbrev pub row_lines : List Symbol → List FunctionCounts → List ℕ
row_lines symbols [] = []
row_lines symbols (r ∷ rs) = row_line symbols r ++ row_lines symbols rs

-- the functions that have words, in the order of the table
abbrev pub row_at : List WordCounts → (function : ℕ) → FunctionCounts
row_at counts f = record { function = f; counts = slice_index_or counts f (counts_by 0 []) }

abbrev pub rows : List WordCounts → List FunctionCounts
rows counts =
    filter (λ r. nat_lt 0 r.counts.words) (map (row_at counts) (range_with_len 0 (length counts)))

-- the same rows by the words added: the most first, then in the order of the table
pub record IsOrder (rows ranked : List FunctionCounts) : Type 0 where
  pub same : IsPermutation rows ranked
  pub falling : (k : ℕ) (d : FunctionCounts) → k + 1 < length ranked
      → added (slice_index_or ranked (k + 1) d).counts ≤ added (slice_index_or ranked k d).counts
  pub ties : (k : ℕ) (d : FunctionCounts) → k + 1 < length ranked
      → added (slice_index_or ranked k d).counts ≡ added (slice_index_or ranked (k + 1) d).counts
      → (slice_index_or ranked k d).function ≤ (slice_index_or ranked (k + 1) d).function

-- 3. The table

-- the head, the rows in their order, and their sum
pub record IsTable (counted : Counted) (symbols : List Symbol) (counts : List WordCounts)
    (text : List ℕ) : Type 0 where
  pub ranked : List FunctionCounts
  pub order : IsOrder (rows counts) ranked
  pub text_is : text ≡ head counted ++ (row_lines symbols ranked ++ sum_line (total counts))

-- 4. Helps the code alone: rows of functions below n, ascending, with numbers below 2^64
pub record AreUpTo (rows : List FunctionCounts) (n : ℕ) : Type 0 where
  pub below : All (λ r. r.function < n) rows
  pub fit : All (λ r. added r.counts < 2 ^ 64) rows
  pub ascending : (k : ℕ) (d : FunctionCounts) → k + 1 < length rows
      → (slice_index_or rows k d).function ≤ (slice_index_or rows (k + 1) d).function
