-- Where a line stands: in which segment, and at what address.
use Rattle.std.specs.Prelude.{◌≡◌, ℕ, ◌+◌, Bool, true, false, List, [], ◌∷◌, ◌++◌, length, Option, None, Some, Contains}
use Rattle.std.specs.Option.{option_map}
use Rattle.rv32_lines.specs.Statements.{Statement, Nothing, Segment, Label, Bytes, Word, Space, Zero, Entry, Instruction, Unread}

-- the last segment so far: its flags and first address, the bytes appended to it, the zeros past
-- them, and whether a line of zeros has ended its bytes
pub record Open : Type 0 where
  pub flags : ℕ
  pub start : ℕ
  pub bytes : ℕ
  pub zeros : ℕ
  pub is_closed : Bool

-- how many segments and appended bytes there are so far, and the last segment
pub record SegmentsSoFar : Type 0 where
  pub segments : ℕ
  pub appended : ℕ
  pub last : Option Open

abbrev pub first_place : SegmentsSoFar
first_place = record { segments = 0; appended = 0; last = None }

-- how many bytes a statement appends, if it is one that appends
abbrev pub appends : Statement → Option ℕ
appends Nothing = None
appends (Segment flags start) = None
appends (Label name) = None
appends (Bytes bytes) = Some (length bytes)
appends (Word word) = Some 4
appends (Space count) = Some count
appends (Zero count) = None
appends (Entry name) = None
appends (Instruction w) = Some 4
appends Unread = None

abbrev pub with_bytes : ℕ → Open → Open
with_bytes count o = record {
  flags = o.flags;
  start = o.start;
  bytes = o.bytes + count;
  zeros = o.zeros;
  is_closed = o.is_closed;
}

abbrev pub with_zeros : ℕ → Open → Open
with_zeros count o = record {
  flags = o.flags;
  start = o.start;
  bytes = o.bytes;
  zeros = o.zeros + count;
  is_closed = true;
}

-- the place after so many bytes more
abbrev pub appended_to : SegmentsSoFar → Option ℕ → SegmentsSoFar
appended_to p None = p
appended_to p (Some count) = record {
  segments = p.segments;
  appended = p.appended + count;
  last = option_map (with_bytes count) p.last;
}

-- the place after a statement
abbrev pub behind : SegmentsSoFar → Statement → SegmentsSoFar
behind p (Segment flags start) = record {
  segments = p.segments + 1;
  appended = p.appended;
  last = Some (record { flags = flags; start = start; bytes = 0; zeros = 0; is_closed = false });
}
behind p (Zero count) = record {
  segments = p.segments;
  appended = p.appended;
  last = option_map (with_zeros count) p.last;
}
behind p s = appended_to p (appends s)

abbrev pub behind_all : SegmentsSoFar → List Statement → SegmentsSoFar
behind_all p [] = p
behind_all p (s ∷ ss) = behind_all (behind p s) ss

-- the place after the first statements of a text
abbrev pub place_behind : List Statement → SegmentsSoFar
place_behind statements = behind_all first_place statements

-- the address of the first byte past the last segment so far
abbrev pub end_of : Open → ℕ
end_of o = o.start + o.bytes + o.zeros

-- the address of the next byte
abbrev pub here : SegmentsSoFar → Option ℕ
here p = option_map end_of p.last

-- the name's first line stands after so many statements
pub record IsLabelled (statements : List Statement) (name : List ℕ)
    (before : List Statement) : Type 0 where
  pub rest : List Statement
  pub statements_are : statements ≡ before ++ Label name ∷ rest
  pub first : Contains before (Label name) → ⊥

-- the name has an address: that of the next byte at its first line
pub record IsNamed (statements : List Statement) (name : List ℕ) (address : ℕ) : Type 0 where
  pub before : List Statement
  pub labelled : IsLabelled statements name before
  pub address_is : here (place_behind before) ≡ Some address
