-- The rules of a text, and the first line that breaks one.
use Rattle.std.specs.Prelude.{◌≡◌, ◌≢◌, ℕ, ◌+◌, ◌%◌, ◌^◌, ◌<◌, ◌≤◌, pos, true, List, ◌∷◌, ◌++◌, length, Option, None, Some, IsSome, IsSomeAnd, Contains, ◌⊎◌}
use Rattle.std.specs.Str.Parse.{digits_value}
use Rattle.rv32_decode.specs.Words.{IsInRange}
use Rattle.rv32_decode.specs.declared.Instr.TheVariants.{Jal, Branch}
use Rattle.rv32_asm.specs.declared.refused.AsmRule.{AsmRule}
use Rattle.rv32_asm.specs.declared.refused.AsmRule.TheVariants as rule
use Rattle.rv32_lines.specs.Texts.{Target, Address, Name, Written, Plain, NegativeShift, Jump, Conditional}
use Rattle.rv32_lines.specs.Statements.{Statement, Label, Word, Zero, Entry, Instruction, Unread, IsReading}
use Rattle.rv32_asm.specs.Places.{Open, SegmentsSoFar, appends, behind, place_behind, end_of, here, IsNamed}

-- the numbers of the rules
abbrev pub number_of : AsmRule → ℕ
number_of rule.Syntax = 60
number_of rule.Range = 61
number_of rule.Name = 62
number_of rule.Place = 63
number_of rule.Size = 64
number_of rule.Empty = 65

-- the address of a target
abbrev pub IsAddress : List Statement → Target → ℕ → Type 0
IsAddress all (Address digits) address = address ≡ digits_value 16 digits
IsAddress all (Name name) address = IsNamed all name address

-- a target has more than 8 digits
abbrev pub IsLong : Target → Type 0
IsLong (Address digits) = 8 < length digits
IsLong (Name name) = ⊥

-- an address is beyond the offsets of an instruction: they go from the reach below its own address
-- to 2 less than the reach above it
abbrev pub IsBeyond : (reach at address : ℕ) → Type 0
IsBeyond reach at address = (address + reach < at) ⊎ (at + reach < address + 2)

-- an address is no target of an instruction that stands at an address, if that is known
abbrev pub IsBadTarget : Option ℕ → (reach address : ℕ) → Type 0
IsBadTarget at reach address =
    (address % 2 ≡ 1) ⊎ ((2 ^ 32 ≤ address) ⊎ IsSomeAnd at (λ a. IsBeyond reach a address))

-- a target is out of range
abbrev pub IsFar : List Statement → Option ℕ → ℕ → Target → Type 0
IsFar all at reach to =
    IsLong to ⊎ ((address : ℕ) × IsAddress all to address × IsBadTarget at reach address)

-- a part of an instruction doesn't fit it, or its target is out of range
abbrev pub IsOutOfRange : List Statement → Option ℕ → Written → Type 0
IsOutOfRange all at (Plain i) = IsInRange i → ⊥
IsOutOfRange all at (NegativeShift o rd rs1 below) = Unit {0}
IsOutOfRange all at (Jump rd to) = (IsInRange (Jal rd (pos 0)) → ⊥) ⊎ IsFar all at (2 ^ 20) to
IsOutOfRange all at (Conditional c rs1 rs2 to) =
    (IsInRange (Branch c rs1 rs2 (pos 0)) → ⊥) ⊎ IsFar all at (2 ^ 12) to

-- the name that an instruction uses
abbrev pub target_name : Target → Option (List ℕ)
target_name (Address digits) = None
target_name (Name name) = Some name

abbrev pub name_in : Written → Option (List ℕ)
name_in (Plain i) = None
name_in (NegativeShift o rd rs1 below) = None
name_in (Jump rd to) = target_name to
name_in (Conditional c rs1 rs2 to) = target_name to

-- a name stands on no name line
abbrev pub IsUnknown : List Statement → List ℕ → Type 0
IsUnknown all name = Contains all (Label name) → ⊥

-- a line that appends, names or adds
abbrev pub NeedsSegment : Statement → Type 0
NeedsSegment (Label name) = Unit {0}
NeedsSegment (Zero count) = Unit {0}
NeedsSegment s = IsSome (appends s)

-- a line that stands at a multiple of 4
abbrev pub NeedsAlignment : Statement → Type 0
NeedsAlignment (Word word) = Unit {0}
NeedsAlignment (Instruction w) = Unit {0}
NeedsAlignment s = ⊥

-- a line is out of place at a place
abbrev pub IsMisplaced : SegmentsSoFar → Statement → Type 0
IsMisplaced p s =
    (NeedsSegment s × (p.last ≡ None))
    ⊎ ((NeedsAlignment s × IsSomeAnd (here p) (λ a. a % 4 ≢ 0))
    ⊎ (IsSome (appends s) × IsSomeAnd p.last (λ o. o.is_closed ≡ true)))

-- a segment ends above 2^32, or its size has no 32 bits
abbrev pub IsTooLong : Open → Type 0
IsTooLong o = (2 ^ 32 < end_of o) ⊎ (2 ^ 32 ≤ o.bytes + o.zeros)

-- a place is past the limits: the last segment is too long, or there are more than 999 segments, or
-- more than 2^24 bytes are appended
abbrev pub IsPastLimits : SegmentsSoFar → Type 0
IsPastLimits p =
    IsSomeAnd p.last IsTooLong ⊎ ((999 < p.segments) ⊎ (2 ^ 24 < p.appended))

-- a statement of a text, after those before it, breaks a rule
abbrev pub BreaksRange : (all before : List Statement) → Statement → Type 0
BreaksRange all before (Instruction w) = IsOutOfRange all (here (place_behind before)) w
BreaksRange all before (Entry name) = (address : ℕ) × IsNamed all name address × (2 ^ 32 ≤ address)
BreaksRange all before s = ⊥

abbrev pub BreaksName : (all before : List Statement) → Statement → Type 0
BreaksName all before (Instruction w) = IsSomeAnd (name_in w) (IsUnknown all)
BreaksName all before (Entry name) =
    IsUnknown all name ⊎ ((other : List ℕ) × Contains before (Entry other))
BreaksName all before (Label name) = Contains before (Label name)
BreaksName all before s = ⊥

abbrev pub Breaks : (all before : List Statement) → Statement → AsmRule → Type 0
Breaks all before s rule.Syntax = s ≡ Unread
Breaks all before s rule.Range = BreaksRange all before s
Breaks all before s rule.Name = BreaksName all before s
Breaks all before s rule.Place = IsMisplaced (place_behind before) s
Breaks all before s rule.Size = IsPastLimits (behind (place_behind before) s)
Breaks all before s rule.Empty = ⊥

-- no statement among the first breaks a rule
abbrev pub AreSoundUpTo : (all front : List Statement) → Type 0
AreSoundUpTo all front =
    (before : List Statement) (s : Statement) (rest : List Statement) (r : AsmRule)
    → front ≡ before ++ s ∷ rest → Breaks all before s r → ⊥

abbrev pub AreSound : List Statement → Type 0
AreSound all = AreSoundUpTo all all

-- there is no segment
abbrev pub IsEmpty : List Statement → Type 0
IsEmpty all = (place_behind all).segments ≡ 0

-- the first statement that breaks a rule, counted from 1, and the lowest rule that it breaks
pub record IsFirstBroken (all : List Statement) (r : AsmRule) (line : ℕ) : Type 0 where
  pub before : List Statement
  pub statement : Statement
  pub rest : List Statement
  pub all_are : all ≡ before ++ statement ∷ rest
  pub line_is : line ≡ length before + 1
  pub sound : AreSoundUpTo all before
  pub breaks : Breaks all before statement r
  pub lowest : (other : AsmRule) → number_of other < number_of r
      → Breaks all before statement other → ⊥

-- no statement breaks a rule, and there is no segment; the line is that after the last
pub record HasNoSegment (all : List Statement) (r : AsmRule) (line : ℕ) : Type 0 where
  pub rule_is : r ≡ rule.Empty
  pub line_is : line ≡ length all + 1
  pub sound : AreSound all
  pub empty : IsEmpty all

-- the first fault of a text, and its line
pub record IsFirstFault (text : List ℕ) (r : AsmRule) (line : ℕ) : Type 0 where
  pub statements : List Statement
  pub reading : IsReading text statements
  pub fault : IsFirstBroken statements r line ⊎ HasNoSegment statements r line

-- no line of a text breaks a rule, and there is a segment
pub record IsSoundText (text : List ℕ) : Type 0 where
  pub statements : List Statement
  pub reading : IsReading text statements
  pub sound : AreSound statements
  pub some : IsEmpty statements → ⊥
