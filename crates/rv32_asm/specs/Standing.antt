-- Helps the code alone: places, names and rules as the code has them.
use denote.Ref.{Bor}
use Rattle.std.specs.Prelude.{◌≡◌, ℕ, ◌+◌, ◌%◌, ◌<◌, ◌≤◌, ◌^◌, ◌-◌, ℤ, pos, ◌-ℤ◌, ◌≤ℤ◌, Bool, true, false, List, [], ◌∷◌, ◌++◌, length, map, Option, None, Some, unwrap_or, Result, Ok, Err, All, IfSome, IsSomeAnd, Contains, ◌⊎◌}
use Rattle.std.specs.Option.{option_map}
use Rattle.std.specs.List.{concat}
use Rattle.std.specs.Ordering.{nat_cmp}
use Rattle.std.specs.BTreeMap.{BTreeMap, get_by}
use Rattle.std.specs.Cmp.Lexicographic.{slice_cmp}
use Rattle.rv32_decode.specs.Fields.{unsigned}
use Rattle.rv32_lines.specs.declared.statements.Statement.{Statement as ReadStatement}
use Rattle.rv32_lines.specs.Texts.{Target, Written, Plain, NegativeShift, Jump, Conditional}
use Rattle.rv32_lines.specs.Statements.{Statement, Segment, Entry}
use Rattle.rv32_lines.specs.Reading.{IsReadStatement, AreReadStatements}
use Rattle.rv32_asm.specs.declared.assembled.AssembledSegment.{AssembledSegment as Part}
use Rattle.rv32_asm.specs.declared.places.Open.{Open as OpenSegment}
use Rattle.rv32_asm.specs.declared.places.SegmentsSoFar.{SegmentsSoFar as ReadPlace}
use Rattle.rv32_asm.specs.declared.labels.Label.{Label}
use Rattle.rv32_asm.specs.declared.labels.Labels.{Labels}
use Rattle.rv32_asm.specs.declared.refused.AsmRule.{AsmRule}
use Rattle.rv32_asm.specs.declared.refused.AsmRule.TheVariants as rule
use Rattle.rv32_asm.specs.Places.{Open, SegmentsSoFar, appends, place_behind, here, IsLabelled, IsNamed}
use Rattle.rv32_asm.specs.Rules.{IsAddress, IsLong, IsFar, IsBadTarget, IsUnknown, IsOutOfRange, target_name, name_in, number_of, Breaks, BreaksRange, BreaksName, AreSound, IsEmpty, IsFirstBroken, HasNoSegment}
use Rattle.rv32_asm.specs.Assembling.{HasText}
use Rattle.rv32_asm.specs.Assembling as text
use Rattle.rv32_asm.specs.Pieces.{IsWithin, segment_of}

-- a place, read
abbrev pub open_of : OpenSegment → Open
open_of o = record {
  flags = o.flags;
  start = o.start;
  bytes = o.bytes;
  zeros = o.zeros;
  is_closed = o.is_closed;
}

abbrev pub place_of : ReadPlace → SegmentsSoFar
place_of p =
    record { segments = p.segments; appended = p.appended; last = option_map open_of p.last }

-- how much a place has counted
abbrev pub counted_in : Option OpenSegment → ℕ
counted_in None = 0
counted_in (Some o) = o.bytes + o.zeros

abbrev pub counted : ReadPlace → ℕ
counted p = p.segments + p.appended + counted_in p.last

-- what a map has for a name
abbrev pub found_in : BTreeMap (Bor (List ℕ)) Label → List ℕ → Option Label
found_in first name = get_by (λ key. slice_cmp nat_cmp name key.now) first

-- what is found for a name
abbrev pub found : Labels → List ℕ → Option Label
found labels name = found_in labels.first name

-- no address is near the highest number
abbrev pub HasRoom : Option ℕ → Type 0
HasRoom None = Unit {0}
HasRoom (Some address) = address < 2 ^ 127 + 2 ^ 65

-- what is found is the name's first line
abbrev pub IsFound : List Statement → List ℕ → Option Label → Type 0
IsFound all name None = IsUnknown all name
IsFound all name (Some label) =
    (before : List Statement) × IsLabelled all name before × (label.line ≡ length before)
    × (label.address ≡ here (place_behind before))

-- the names of a text
abbrev pub AreLabels : List Statement → Labels → Type 0
AreLabels all labels = (name : List ℕ) → IsFound all name (found labels name)

-- a name that is used stands on no name line
abbrev pub UsesUnknown : List Statement → Option (List ℕ) → Type 0
UsesUnknown all name = IsSomeAnd name (IsUnknown all)

-- the address of a target, or why it has none
abbrev pub IsFoundTarget : List Statement → Target → Result (Option ℕ) AsmRule → Type 0
IsFoundTarget all to (Ok (Some address)) =
    IsAddress all to address × (IsLong to → ⊥) × (UsesUnknown all (target_name to) → ⊥)
IsFoundTarget all to (Ok None) =
    ((address : ℕ) → IsAddress all to address → ⊥) × (IsLong to → ⊥)
    × (UsesUnknown all (target_name to) → ⊥)
IsFoundTarget all to (Err rule.Range) = IsLong to
IsFoundTarget all to (Err rule.Name) = UsesUnknown all (target_name to)
IsFoundTarget all to (Err r) = ⊥

-- an address is no instruction's: it is odd, or not below 2^32
abbrev pub IsNoAddress : ℕ → Type 0
IsNoAddress address = (address % 2 ≡ 1) ⊎ (2 ^ 32 ≤ address)

-- an offset is even, and no further than the reach
abbrev pub IsNear : ℕ → ℤ → Type 0
IsNear reach offset =
    ((pos 0 -ℤ pos reach) ≤ℤ offset) × (offset ≤ℤ (pos reach -ℤ pos 2))
    × (unsigned 32 offset % 2 ≡ 0)

-- the offset of an address from another, or why there is none
abbrev pub IsOffset : Option ℕ → (reach address : ℕ) → Result (Option ℤ) AsmRule → Type 0
IsOffset at reach address (Ok (Some offset)) =
    (IsBadTarget at reach address → ⊥)
    × (a : ℕ) × (at ≡ Some a) × (address < 2 ^ 32) × (offset ≡ pos address -ℤ pos a)
IsOffset at reach address (Ok None) =
    (IsBadTarget at reach address → ⊥) × ((a : ℕ) → at ≡ Some a → a % 2 ≡ 0 → ⊥)
IsOffset at reach address (Err rule.Range) = IsBadTarget at reach address
IsOffset at reach address (Err r) = ⊥

-- the offset of a target, or why there is none
abbrev pub IsFoundOffset : List Statement → Option ℕ → ℕ → Target → Result (Option ℤ) AsmRule
    → Type 0
IsFoundOffset all at reach to (Ok (Some offset)) =
    (IsFar all at reach to → ⊥) × (UsesUnknown all (target_name to) → ⊥)
    × (a address : ℕ) × (at ≡ Some a) × (IsLong to → ⊥) × IsAddress all to address
    × (address < 2 ^ 32) × (offset ≡ pos address -ℤ pos a)
IsFoundOffset all at reach to (Ok None) =
    (IsFar all at reach to → ⊥) × (UsesUnknown all (target_name to) → ⊥)
    × ((a address : ℕ) → at ≡ Some a → a % 2 ≡ 0 → IsAddress all to address → ⊥)
IsFoundOffset all at reach to (Err rule.Range) = IsFar all at reach to
IsFoundOffset all at reach to (Err rule.Name) =
    (IsFar all at reach to → ⊥) × UsesUnknown all (target_name to)
IsFoundOffset all at reach to (Err r) = ⊥

-- the address of an instruction's target
abbrev pub IsTargetOf : List Statement → Written → ℕ → Type 0
IsTargetOf all (Plain i) address = Unit {0}
IsTargetOf all (NegativeShift o rd rs1 below) address = Unit {0}
IsTargetOf all (Jump rd to) address = IsAddress all to address
IsTargetOf all (Conditional c rs1 rs2 to) address = IsAddress all to address

-- the word of an instruction at an address, or why there is none
abbrev pub IsFoundWord : List Statement → Option ℕ → Written → Result (Option ℕ) AsmRule → Type 0
IsFoundWord all at w (Ok (Some word)) =
    (IsOutOfRange all at w → ⊥) × (UsesUnknown all (name_in w) → ⊥)
    × ((address : ℕ) → at ≡ Some address → HasText all address w word)
IsFoundWord all at w (Ok None) =
    (IsOutOfRange all at w → ⊥) × (UsesUnknown all (name_in w) → ⊥)
    × ((a address : ℕ) → at ≡ Some a → a % 2 ≡ 0 → IsTargetOf all w address → ⊥)
IsFoundWord all at w (Err rule.Range) = IsOutOfRange all at w
IsFoundWord all at w (Err rule.Name) = (IsOutOfRange all at w → ⊥) × UsesUnknown all (name_in w)
IsFoundWord all at w (Err r) = ⊥

-- the lowest of the rules that a statement breaks, if it breaks one
abbrev pub IsLowest : (all before : List Statement) → Statement → Option AsmRule → Type 0
IsLowest all before s None = (r : AsmRule) → Breaks all before s r → ⊥
IsLowest all before s (Some r) =
    Breaks all before s r
    × ((other : AsmRule) → number_of other < number_of r → Breaks all before s other → ⊥)

-- the same of the rules on numbers and names
abbrev pub IsLowestOfNames : (all before : List Statement) → Statement → Option AsmRule → Type 0
IsLowestOfNames all before s None = (BreaksRange all before s → ⊥) × (BreaksName all before s → ⊥)
IsLowestOfNames all before s (Some rule.Range) = BreaksRange all before s
IsLowestOfNames all before s (Some rule.Name) =
    (BreaksRange all before s → ⊥) × BreaksName all before s
IsLowestOfNames all before s (Some r) = ⊥

-- whether an entry line stands before
abbrev pub TellsEntry : List Statement → Bool → Type 0
TellsEntry before true = (name : List ℕ) × Contains before (Entry name)
TellsEntry before false = (name : List ℕ) → Contains before (Entry name) → ⊥

-- a line of a text, read, and where it stands
pub record IsLine (labels : Labels) (read : ReadStatement) (line : ℕ) (place : ReadPlace)
    (has_entry : Bool)
    (all before : List Statement) (s : Statement) : Type 0 where
  pub rest : List Statement
  pub all_are : all ≡ before ++ s ∷ rest
  pub labels_are : AreLabels all labels
  pub read_so : IsReadStatement read s
  pub line_is : line ≡ length before
  pub place_is : place_of place ≡ place_behind before
  pub entry_told : TellsEntry before has_entry

-- a line of a text in which no line breaks a rule, read, and the address at which it stands
pub record IsSoundLine (labels : Labels) (read : ReadStatement) (at : Option ℕ)
    (all before : List Statement) (s : Statement) : Type 0 where
  pub rest : List Statement
  pub all_are : all ≡ before ++ s ∷ rest
  pub labels_are : AreLabels all labels
  pub read_so : IsReadStatement read s
  pub at_is : at ≡ here (place_behind before)
  pub sound : AreSound all

-- what the lines are found to break first
abbrev pub IsFoundFault : List Statement → Option (AsmRule × ℕ) → Type 0
IsFoundFault all None = AreSound all × (IsEmpty all → ⊥)
IsFoundFault all (Some fault) = IsFirstBroken all fault.0 fault.1 ⊎ HasNoSegment all fault.0 fault.1

-- a text in which no line breaks a rule, read
pub record IsSoundReading (read : List ReadStatement) (labels : Labels)
    (all : List Statement) : Type 0 where
  pub read_so : AreReadStatements read all
  pub labels_are : AreLabels all labels
  pub sound : AreSound all
  pub some : IsEmpty all → ⊥

-- the address of the first segment
abbrev pub first_start : List Statement → Option ℕ
first_start [] = None
first_start (Segment flags start ∷ ss) = Some start
first_start (s ∷ ss) = first_start ss

-- the address of the name of an entry line, or else that of the first segment
abbrev pub IsFoundEntry : List Statement → Option (List ℕ) → ℕ → Type 0
IsFoundEntry all (Some name) entry = IsNamed all name entry
IsFoundEntry all None entry = first_start all ≡ Some entry

-- as many bytes as each of the statements appends
abbrev pub AreFitting : List Statement → List (List ℕ) → Type 0
AreFitting [] appended = appended ≡ []
AreFitting (s ∷ ss) [] = ⊥
AreFitting (s ∷ ss) (bytes ∷ more) =
    (length bytes ≡ unwrap_or (appends s) 0) × AreFitting ss more

-- the segments of statements and their bytes
pub record ArePieces (all : List Statement) (appended : List (List ℕ))
    (pieces : List Part) : Type 0 where
  pub segments_are :
      map (segment_of (concat appended)) pieces ≡ (text.pieces_of all appended).segments
  pub within : All (IsWithin (concat appended)) pieces

-- the segment that ends at a place, if there is one
abbrev pub closed_by : ℕ → Option Open → List Part
closed_by appended None = []
closed_by appended (Some o) =
    record {
      flags = o.flags;
      start = o.start;
      size = o.bytes + o.zeros;
      first = appended - o.bytes;
      end = appended;
    }
    ∷ []

abbrev pub closed : SegmentsSoFar → List Part
closed p = closed_by p.appended p.last

-- a segment that ends at a place fits the numbers of a piece
abbrev pub IsClosable : SegmentsSoFar → Type 0
IsClosable p =
    (p.appended ≤ 2 ^ 24)
    × IfSome p.last (λ o. (o.bytes ≤ p.appended) × (o.bytes + o.zeros < 2 ^ 32))
