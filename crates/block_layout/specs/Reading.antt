-- Helps the code alone: the lines of a text, one after another.
use Rattle.std.specs.Prelude.{◌≡◌, ℕ, ◌+◌, ◌<◌, true, false, List, [], ◌∷◌, ◌++◌, length, find, Option, None, Some, IsSome}
use denote.Ref.{Bor}
use Rattle.std.specs.BTreeMap.{BTreeMap, get}
use Rattle.std.specs.Ordering.{nat_cmp}
use Rattle.block_layout.specs.declared.ranges.Lines.{Lines}
use Rattle.block_layout.specs.declared.layout.BlockRange.{BlockRange}
use Rattle.block_layout.specs.declared.refused.LayoutRule.{LayoutRule}
use Rattle.block_layout.specs.Layout.{IsValid, IsRange, is_block_size, is_whole, is_in, names}
use Rattle.block_layout.specs.Text.{text_lines, Name, Violates, Breaks, number_of}

-- the map gives the range of each line
abbrev pub MapsLines : BTreeMap ℕ BlockRange → List BlockRange → Type 0
MapsLines m rs = (line : ℕ) → get nat_cmp m line ≡ find (names line) rs

-- no line of the range is in an earlier one
abbrev pub IsNew : List BlockRange → BlockRange → Type 0
IsNew earlier r = (line : ℕ) → names line r ≡ true → find (names line) earlier ≡ None

-- every line of the range is shared, or one isn't
abbrev pub IsAllShared : List Lines → BlockRange → Type 0
IsAllShared shared r = (line : ℕ) → names line r ≡ true → is_in shared line ≡ true

abbrev pub LacksShared : List Lines → BlockRange → Type 0
LacksShared shared r = (line : ℕ) × (names line r ≡ true) × (is_in shared line ≡ false)

-- a line of the range is in an earlier one
abbrev pub Overlaps : List BlockRange → BlockRange → Type 0
Overlaps earlier r = (line : ℕ) × (names line r ≡ true) × IsSome (find (names line) earlier)

-- a range of blocks
pub record IsCutRange (r : BlockRange) : Type 0 where
  pub size : is_block_size r.block ≡ true
  pub whole : is_whole r ≡ true

-- the range breaks no rule
pub record IsSound (shared : List Lines) (nodes : ℕ) (earlier : List BlockRange) (r : BlockRange)
    : Type 0 where
  pub range : IsRange shared nodes r
  pub new : IsNew earlier r

-- the rule is the lowest that the range breaks
pub record IsBroken (shared : List Lines) (nodes : ℕ) (earlier : List BlockRange) (r : BlockRange)
    (rule : LayoutRule) : Type 0 where
  pub violates : Violates shared nodes earlier r rule
  pub lowest : (other : LayoutRule) → number_of other < number_of rule →
      Violates shared nodes earlier r other → ⊥

-- the range breaks no rule, and is added after the earlier ones
pub record IsAdded (shared : List Lines) (nodes : ℕ) (earlier : List BlockRange) (r : BlockRange)
    (named : List BlockRange) : Type 0 where
  pub named_is : named ≡ earlier ++ r ∷ []
  pub valid : IsValid (record { shared = shared; named = named; nodes = nodes })

-- the rule is the lowest that the line breaks
pub record IsFault (shared : List Lines) (nodes : ℕ) (earlier : List BlockRange) (line : List ℕ)
    (rule : LayoutRule) : Type 0 where
  pub breaks : Breaks shared nodes earlier line rule
  pub lowest : (other : LayoutRule) → number_of other < number_of rule →
      Breaks shared nodes earlier line other → ⊥

-- the line breaks no rule, and adds what it names
pub record IsTaken (shared : List Lines) (nodes : ℕ) (earlier : List BlockRange) (line : List ℕ)
    (named : List BlockRange) : Type 0 where
  pub added : List BlockRange
  pub named_is : named ≡ earlier ++ added
  pub names_are : Name (line ∷ []) added
  pub valid : IsValid (record { shared = shared; named = named; nodes = nodes })

-- the lines that are left
abbrev pub lines_left : Option (Bor (List ℕ)) → List (List ℕ)
lines_left None = []
lines_left (Some text) = text_lines text.now

-- how many bytes are left, and one more
abbrev pub bytes_left : Option (Bor (List ℕ)) → ℕ
bytes_left None = 0
bytes_left (Some text) = length text.now + 1

-- a text read up to some line: the lines that are left, and the number of those before
pub record IsReadUpTo (text : List ℕ) (shared : List Lines) (nodes : ℕ) (named : List BlockRange)
    (left : List (List ℕ)) (number : ℕ) : Type 0 where
  pub done : List (List ℕ)
  pub text_is : text_lines text ≡ done ++ left
  pub number_is : number ≡ length done
  pub names_are : Name done named
  pub valid : IsValid (record { shared = shared; named = named; nodes = nodes })
