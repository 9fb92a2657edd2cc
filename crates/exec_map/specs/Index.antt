-- Helps the code alone: the segments and the code of a program as sorted ranges.
use Rattle.std.specs.Prelude.{◌≡◌, ℕ, ◌+◌, ◌-◌, ◌*◌, ◌/◌, ◌%◌, ◌^◌, ◌<◌, ◌≤◌, Bool, true, false, not, ◌&&◌, ◌==◌, if◌then◌else◌, nat_lt, nat_le, min, List, length, Option, Some, None, All, AllPairs}
use Rattle.std.specs.List.{list_any, list_all, filter}
use Rattle.std.specs.List.Sorted.{IsPermutation}
use Rattle.block_layout.specs.declared.ranges.Lines.{Lines}
use Rattle.elf32_read.specs.Elf.{Elf, Segment, Section, are_placed}
use Rattle.exec_map.specs.Contents.{is_code_word, is_code_section, is_executable, touches, is_writable}
use Rattle.exec_map.specs.Refusals.{has_memory, Fits, number_of}
use Rattle.exec_map.specs.declared.stretches.NumberRange.{NumberRange}
use Rattle.exec_map.specs.declared.refused.ProgramRule.{ProgramRule}

-- the line after the last in which the segment has a byte
abbrev pub end_line : Segment → ℕ
end_line s = (s.vaddr + s.memsz + 63) / 64

-- the segments have a line in common
abbrev pub common_line : Segment → Segment → Bool
common_line s t =
    has_memory s
    && (has_memory t
    && (nat_lt (s.vaddr / 64) (end_line t) && nat_lt (t.vaddr / 64) (end_line s)))

-- ascending, and no line in two of them
abbrev pub AreApart : List Segment → Type 0
AreApart segments = AllPairs (λ s t. end_line s ≤ t.vaddr / 64) segments

-- segments that have memory, by address, no two in one line
pub record AreSearchable (segments : List Segment) : Type 0 where
  pub placed : are_placed segments ≡ true
  pub memory : list_all has_memory segments ≡ true
  pub apart : AreApart segments

-- the segments that have memory, by address
pub record AreSorted (all sorted : List Segment) : Type 0 where
  pub permutation : IsPermutation (filter has_memory all) sorted
  pub placed : are_placed sorted ≡ true
  pub memory : list_all has_memory sorted ≡ true
  pub ascending : AllPairs (λ s t. s.vaddr ≤ t.vaddr) sorted

-- the number is in the stretch
abbrev pub has : ℕ → NumberRange → Bool
has n r = nat_le r.first n && nat_lt n r.end

abbrev pub have : List NumberRange → ℕ → Bool
have stretches n = list_any (has n) stretches

-- the stretch has a number
abbrev pub IsSome : NumberRange → Type 0
IsSome r = r.first < r.end

-- the stretch is one of whole words
abbrev pub IsOfWords : NumberRange → Type 0
IsOfWords r = (r.first % 4 ≡ 0) × (r.end % 4 ≡ 0)

-- stretches ascending, without overlap and without an empty one
pub record AreNumberRanges (stretches : List NumberRange) : Type 0 where
  pub some : All IsSome stretches
  pub ascending : AllPairs (λ r q. r.end ≤ q.first) stretches

-- the whole words from an address to before an end, as far as they are low
abbrev pub words_within : ℕ → ℕ → Option NumberRange
words_within first end =
    if nat_lt ((first + 3) / 4 * 4) (min end (2 ^ 31) / 4 * 4)
    then Some (record { first = (first + 3) / 4 * 4; end = min end (2 ^ 31) / 4 * 4 })
    else None

-- those of an executable segment's bytes, and of a section of code
abbrev pub words_of_segment : Segment → Option NumberRange
words_of_segment s =
    if is_executable s then words_within s.vaddr (s.vaddr + length s.bytes) else None

abbrev pub words_of_section : Section → Option NumberRange
words_of_section s = if is_code_section s then words_within s.addr (s.addr + s.size) else None

-- the segment is writable, or it isn't
abbrev pub is_of_kind : Bool → Segment → Bool
is_of_kind true s = is_writable s
is_of_kind false s = not (is_writable s)

-- the lines in which a segment of this kind has a byte
abbrev pub lines_of_kind : Bool → Segment → Option NumberRange
lines_of_kind writable s =
    if is_of_kind writable s then Some (record { first = s.vaddr / 64; end = end_line s })
    else None

-- a stretch of lines by its length
abbrev pub lines_of_stretch : NumberRange → Lines
lines_of_stretch r = record { first = r.first; lines = r.end - r.first }

-- the stretches have the code words
pub record AreCode (e : Elf) (code : List NumberRange) : Type 0 where
  pub stretches : AreNumberRanges code
  pub whole : All IsOfWords code
  pub low : All (λ r. r.end ≤ 2 ^ 31) code
  pub words : (a : ℕ) → is_code_word e a ≡ ((a % 4 == 0) && have code a)

pub record IsIndex (e : Elf) (segments : List Segment) (code : List NumberRange) : Type 0 where
  pub placed : are_placed e.segments ≡ true
  pub permutation : IsPermutation (filter has_memory e.segments) segments
  pub searchable : AreSearchable segments
  pub words : AreCode e code

-- the segment is of this kind, and has a byte in the line
abbrev pub has_line : Bool → ℕ → Segment → Bool
has_line writable line s = is_of_kind writable s && touches line s

-- no rule below this number fits
abbrev pub NoRuleBelow : Elf → ℕ → Type 0
NoRuleBelow e n = (r : ProgramRule) → Fits e r → n ≤ number_of r
