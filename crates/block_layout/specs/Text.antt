-- The text of a layout: a line for each range, with start, length, block size and home.
use Rattle.std.specs.Prelude.{◌≡◌, ℕ, suc, ◌+◌, ◌<◌, ◌≤◌, Bool, true, false, ◌==◌, ◌||◌, List, [], ◌∷◌, ◌++◌, length, slice_index, codes, replicate, Option, None, Some, IsSome, find, ◌⊎◌}
use Rattle.std.specs.List.{list_all, slice_split}
use Rattle.std.specs.Str.Parse.{IsNumeral, digits_value}
use Rattle.block_layout.specs.declared.ranges.Lines.{Lines}
use Rattle.block_layout.specs.declared.layout.BlockRange.{BlockRange}
use Rattle.block_layout.specs.declared.refused.LayoutRule.{LayoutRule}
use Rattle.block_layout.specs.declared.refused.LayoutRule.TheVariants.{Syntax, BlockSize, Unaligned, NotShared, Overlap, Home}
use Rattle.block_layout.specs.Layout.{Shape, IsValid, names, is_in, is_block_size, is_whole, is_home}

-- lines end with a line feed; the last may lack it (after a last line feed there is an empty line)
abbrev pub text_lines : List ℕ → List (List ℕ)
text_lines text = slice_split (λ c. c == 10) text

-- an empty line, a line of spaces, and a line that begins with '#' say nothing
abbrev pub says_nothing : List ℕ → Bool
says_nothing line = list_all (λ c. c == 32) line || slice_index line 0 == 35

-- 0x and 1 to 8 hexadecimal digits of either case
pub record IsHexadecimal (word : List ℕ) (n : ℕ) : Type 0 where
  pub digits : List ℕ
  pub word_is : word ≡ codes "0x" ++ digits
  pub numeral : IsNumeral 16 digits
  pub few : length digits ≤ 8
  pub value : digits_value 16 digits ≡ n

-- so many decimal digits at most, and one at least
pub record IsDecimal (most : ℕ) (word : List ℕ) (n : ℕ) : Type 0 where
  pub numeral : IsNumeral 10 word
  pub few : length word ≤ most
  pub value : digits_value 10 word ≡ n

-- a node's number, or a star for none
abbrev pub IsHomeWord : List ℕ → Option ℕ → Type 0
IsHomeWord word None = word ≡ codes "*"
IsHomeWord word (Some n) = IsDecimal 2 word n

-- one space, and n more
abbrev pub spaces : ℕ → List ℕ
spaces n = replicate (suc n) 32

-- four fields, with one space or more between them and none before or after
pub record HasFields (line : List ℕ) (r : BlockRange) : Type 0 where
  pub start_word : List ℕ
  pub length_word : List ℕ
  pub block_word : List ℕ
  pub home_word : List ℕ
  pub first_gap : ℕ
  pub second_gap : ℕ
  pub third_gap : ℕ
  pub line_is : line ≡ start_word ++ (spaces first_gap ++ (length_word ++ (spaces second_gap
      ++ (block_word ++ (spaces third_gap ++ home_word)))))
  pub start : IsHexadecimal start_word r.start
  pub length : IsHexadecimal length_word r.length
  pub block : IsDecimal 5 block_word r.block
  pub home : IsHomeWord home_word r.home

-- what lines name, in their order
abbrev pub Name : List (List ℕ) → List BlockRange → Type 0
Name [] named = named ≡ []
Name (line ∷ more) named = ((says_nothing line ≡ true) × Name more named)
    ⊎ ((r : BlockRange) × (rest : List BlockRange) × (named ≡ r ∷ rest) × HasFields line r
    × Name more rest)

-- the text is that of the layout, whose shared lines and nodes are given
pub record IsLayoutOf (text : List ℕ) (shared : List Lines) (nodes : ℕ) (s : Shape) : Type 0 where
  pub shared_is : s.shared ≡ shared
  pub nodes_is : s.nodes ≡ nodes
  pub named : Name (text_lines text) s.named
  pub valid : IsValid s

-- the numbers of the rules
abbrev pub number_of : LayoutRule → ℕ
number_of Syntax = 30
number_of BlockSize = 31
number_of Unaligned = 32
number_of NotShared = 33
number_of Overlap = 34
number_of Home = 35

-- a range breaks a rule, after the ranges of earlier lines
abbrev pub Violates : List Lines → ℕ → List BlockRange → BlockRange → LayoutRule → Type 0
Violates shared nodes earlier r Syntax = ⊥
Violates shared nodes earlier r BlockSize = is_block_size r.block ≡ false
Violates shared nodes earlier r Unaligned = is_whole r ≡ false
Violates shared nodes earlier r NotShared =
    (line : ℕ) × (names line r ≡ true) × (is_in shared line ≡ false)
Violates shared nodes earlier r Overlap =
    (line : ℕ) × (names line r ≡ true) × IsSome (find (names line) earlier)
Violates shared nodes earlier r Home = is_home nodes r.home ≡ false

-- a line breaks a rule: it isn't in the grammar, or the range that it names breaks the rule
abbrev pub Breaks : List Lines → ℕ → List BlockRange → List ℕ → LayoutRule → Type 0
Breaks shared nodes earlier line Syntax =
    (says_nothing line ≡ false) × ((r : BlockRange) → HasFields line r → ⊥)
Breaks shared nodes earlier line rule =
    (r : BlockRange) × HasFields line r × Violates shared nodes earlier r rule

-- the first line that breaks a rule, counted from 1, and the lowest rule that it breaks
pub record IsFirstFault (text : List ℕ) (shared : List Lines) (nodes : ℕ) (rule : LayoutRule)
    (number : ℕ) : Type 0 where
  pub before : List (List ℕ)
  pub line : List ℕ
  pub behind : List (List ℕ)
  pub text_is : text_lines text ≡ before ++ line ∷ behind
  pub number_is : number ≡ length before + 1
  pub earlier : List BlockRange
  pub named : Name before earlier
  pub valid : IsValid (record { shared = shared; named = earlier; nodes = nodes })
  pub breaks : Breaks shared nodes earlier line rule
  pub lowest : (other : LayoutRule) → number_of other < number_of rule →
      Breaks shared nodes earlier line other → ⊥

-- the first of the ranges that breaks a rule, counted from 1, and the lowest rule that it breaks.
pub record IsFirstBroken (ranges : List BlockRange) (shared : List Lines) (nodes : ℕ)
    (rule : LayoutRule)
    (number : ℕ) : Type 0 where
  pub before : List BlockRange
  pub range : BlockRange
  pub behind : List BlockRange
  pub ranges_are : ranges ≡ before ++ range ∷ behind
  pub number_is : number ≡ length before + 1
  pub valid : IsValid (record { shared = shared; named = before; nodes = nodes })
  pub violates : Violates shared nodes before range rule
  pub lowest : (other : LayoutRule) → number_of other < number_of rule
      → Violates shared nodes before range other → ⊥
