-- What an acceptable executable has, which is that no rule fits it; and why an executable is
-- refused: each rule with what it names, and the order of the rules.
use Rattle.std.specs.Prelude.{◌≡◌, ℕ, ◌+◌, ◌-◌, ◌/◌, ◌%◌, ◌<◌, ◌≤◌, Bool, true, false, not, if◌then◌else◌, ◌&&◌, ◌==◌, nat_lt, nat_le, List, Some, None, AllPairs, length, slice_get, position}
use Rattle.std.specs.List.{list_any, sum_by}
use Rattle.elf32_read.specs.Elf.{Elf, Segment, Section}
use Rattle.rv32_program.specs.declared.Class.{Class}
use Rattle.rv32_program.specs.declared.Class.TheVariants.{Shared, ReadOnly}
use Rattle.exec_map.specs.Contents.{is_executable, is_writable, touches, is_code_section, is_code_word, word_of, is_supported_word, AllSupported}
use Rattle.exec_map.specs.declared.refused.ProgramRule.{ProgramRule}
use Rattle.exec_map.specs.declared.refused.ProgramRule.TheVariants.{TooHigh, Overlap, WritableCode, NoCode, TooMuch, EntryNotCode, Unsupported, CodeAlign, TooManySegments}

abbrev pub has_memory : Segment → Bool
has_memory s = nat_lt 0 s.memsz

-- the segment ends above the addresses that a program may have
abbrev pub is_too_high : Segment → Bool
is_too_high s = has_memory s && nat_lt 0x7fff0000 (s.vaddr + s.memsz)

-- segments k and l have a line in common
pub record AreOverlapping (segments : List Segment) (k l : ℕ) : Type 0 where
  pub order : k < l
  pub one : Segment
  pub other : Segment
  pub one_is : slice_get segments k ≡ Some one
  pub other_is : slice_get segments l ≡ Some other
  pub line : ℕ
  pub in_one : touches line one ≡ true
  pub in_other : touches line other ≡ true

-- the least segment that overlaps a later one, and the least of those
pub record IsFirstOverlap (segments : List Segment) (i j : ℕ) : Type 0 where
  pub overlap : AreOverlapping segments i j
  pub least : (k l : ℕ) → AreOverlapping segments k l → i ≤ k
  pub next : (l : ℕ) → AreOverlapping segments i l → j ≤ l

abbrev pub is_writable_code : Segment → Bool
is_writable_code s = has_memory s && (is_writable s && is_executable s)

-- the number of lines in which a segment has a byte
abbrev pub lines_of : Segment → ℕ
lines_of s = if has_memory s then (s.vaddr + s.memsz + 63) / 64 - s.vaddr / 64 else 0

-- 262,144 lines are 16 MiB
abbrev pub line_limit : ℕ
line_limit = 262144

-- the number of lines of the segments that pass a test; no line is in two of them
abbrev pub lines_of_all : (Segment → Bool) → List Segment → ℕ
lines_of_all test segments = sum_by (λ s. if test s then lines_of s else 0) segments

-- more than 16 MiB are shared, or are read alone; where both are, shared is named
abbrev pub IsTooMuch : List Segment → Class → Type 0
IsTooMuch segments Shared = line_limit < lines_of_all is_writable segments
IsTooMuch segments ReadOnly =
    (lines_of_all is_writable segments ≤ line_limit)
    × (line_limit < lines_of_all (λ s. not (is_writable s)) segments)
IsTooMuch segments c = ⊥

-- the lowest code word that has no row
pub record IsFirstUnsupported (e : Elf) (a word : ℕ) : Type 0 where
  pub code_word : is_code_word e a ≡ true
  pub reads : word ≡ word_of e a
  pub unsupported : is_supported_word word ≡ false
  pub lowest : (b : ℕ) → b < a → is_code_word e b ≡ true → is_supported_word (word_of e b) ≡ true

-- the section is wholly in the file's bytes of the segment, which is executable
abbrev pub is_within : Section → Segment → Bool
is_within s segment =
    is_executable segment
    && (nat_le segment.vaddr s.addr
    && nat_le (s.addr + s.size) (segment.vaddr + length segment.bytes))

-- address and size are multiples of four, and an executable segment has the section
abbrev pub is_whole_code : List Segment → Section → Bool
is_whole_code segments s =
    (s.addr % 4 == 0) && ((s.size % 4 == 0) && list_any (is_within s) segments)

-- a section of code that isn't so; one of size 0 is ignored
abbrev pub is_broken_code : List Segment → Section → Bool
is_broken_code segments s =
    is_code_section s && (nat_lt 0 s.size && not (is_whole_code segments s))

-- the rule fits the executable, with the least segment, section or address that it may name
abbrev pub Fits : Elf → ProgramRule → Type 0
Fits e (TooHigh segment) = position is_too_high e.segments ≡ Some segment
Fits e (Overlap first second) = IsFirstOverlap e.segments first second
Fits e (WritableCode segment) = position is_writable_code e.segments ≡ Some segment
Fits e NoCode = (a : ℕ) → is_code_word e a ≡ false
Fits e (TooMuch class) = IsTooMuch e.segments class
Fits e (EntryNotCode address) = (address ≡ e.entry) × (is_code_word e address ≡ false)
Fits e (Unsupported address word) = IsFirstUnsupported e address word
Fits e (CodeAlign section) = position (is_broken_code e.segments) e.sections ≡ Some section
Fits e (TooManySegments count) = (count ≡ length e.segments) × (999 < count)

-- the number of a rule; rules are judged in the order of their numbers
abbrev pub number_of : ProgramRule → ℕ
number_of (TooHigh segment) = 12
number_of (Overlap first second) = 13
number_of (WritableCode segment) = 14
number_of NoCode = 15
number_of (TooMuch class) = 16
number_of (EntryNotCode address) = 17
number_of (Unsupported address word) = 18
number_of (CodeAlign section) = 19
number_of (TooManySegments count) = 22

-- the executable is refused first by this rule
pub record IsRefusedBy (e : Elf) (r : ProgramRule) : Type 0 where
  pub fits : Fits e r
  pub first : (q : ProgramRule) → Fits e q → number_of r ≤ number_of q

-- Each segment ends at 0x7fff0000 or below it, no line is in two of them, and none is writable and
-- executable. The entry is a code word, every code word has a row, and sections of code are whole.
-- There are 999 segments at most, and 16 MiB at most of each kind.
pub record IsAcceptable (e : Elf) : Type 0 where
  pub low : position is_too_high e.segments ≡ None
  pub apart : AllPairs (λ s t. (k : ℕ) → touches k s ≡ true → touches k t ≡ false) e.segments
  pub unwritten : position is_writable_code e.segments ≡ None
  pub few_shared : lines_of_all is_writable e.segments ≤ line_limit
  pub few_read_only : lines_of_all (λ s. not (is_writable s)) e.segments ≤ line_limit
  pub entry : is_code_word e e.entry ≡ true
  pub supported : AllSupported e
  pub whole : position (is_broken_code e.segments) e.sections ≡ None
  pub few_segments : length e.segments ≤ 999
