-- The program that an executable's segments and sections hold
-- (System V ABI, "Object Files": Section Header; "Program Loading": Program Header).
use Rattle.std.specs.Prelude.{◌≡◌, ℕ, zero, suc, ◌+◌, ◌-◌, ◌*◌, ◌%◌, ◌<◌, ◌≤◌, Bool, true, false, not, if◌then◌else◌, ◌&&◌, ◌==◌, nat_lt, nat_le, List, [], ◌∷◌, Option, Some, None, length, slice_index, find, is_some, AllPairs}
use Rattle.std.specs.List.{list_any}
use Rattle.std.specs.Option.{option_map_or}
use Rattle.rv32_decode.specs.Fields.{bit}
use Rattle.rv32_decode.specs.Rows.{instruction_of}
use Rattle.rv32_decode.specs.declared.Instr.{Instr}
use Rattle.rv32_decode.specs.declared.Width.TheVariants.{Word}
use Rattle.byte_range.specs.Memory.{raw}
use Rattle.block_layout.specs.Layout.{is_in}
use Rattle.block_layout.specs.declared.ranges.Lines.{Lines}
use Rattle.elf32_read.specs.Elf.{Elf, Segment, Section}
use Rattle.rv32_program.specs.declared.Class.{Class}
use Rattle.rv32_program.specs.declared.Class.TheVariants.{Shared, ReadOnly, Private, Unmapped}
use Rattle.rv32_program.specs.Program.{Program}

-- PF_X and PF_W of a segment's permissions
abbrev pub is_executable : Segment → Bool
is_executable s = bit s.flags 0

abbrev pub is_writable : Segment → Bool
is_writable s = bit s.flags 1

-- the segment has a byte in the line
abbrev pub touches : ℕ → Segment → Bool
touches line s =
    nat_lt 0 s.memsz && (nat_lt s.vaddr (64 * line + 64) && nat_lt (64 * line) (s.vaddr + s.memsz))

-- the window 0x7fff0000 to 0x7fffffff
abbrev pub is_private : ℕ → Bool
is_private line = nat_le 0x1fffc00 line && nat_lt line 0x2000000

abbrev pub segment_class : Option Segment → Class
segment_class None = Unmapped
segment_class (Some s) = if is_writable s then Shared else ReadOnly

-- the class of a line
abbrev pub class_of_line : Elf → ℕ → Class
class_of_line e line =
    if is_private line then Private else segment_class (find (touches line) e.segments)

abbrev pub is_shared : Class → Bool
is_shared Shared = true
is_shared c = false

abbrev pub is_read_only : Class → Bool
is_read_only ReadOnly = true
is_read_only c = false

-- the file has a byte of the segment for the address
abbrev pub holds : ℕ → Segment → Bool
holds a s = nat_le s.vaddr a && nat_lt a (s.vaddr + length s.bytes)

-- the byte that the file has for an address, or 0
abbrev pub byte_of : List Segment → ℕ → ℕ
byte_of segments a =
    option_map_or (λ s. slice_index s.bytes (a - s.vaddr)) (find (holds a) segments) 0

-- the first content of an address
abbrev pub first_byte : Elf → ℕ → ℕ
first_byte e a = byte_of e.segments a

-- the first contents of so many addresses from one on
unfoldable pub first_bytes : Elf → ℕ → ℕ → List ℕ
first_bytes e a zero = []
first_bytes e a (suc n) = first_byte e a ∷ first_bytes e (a + 1) n

-- four bytes from the address on are file bytes of the segment, which is executable
abbrev pub holds_word : ℕ → Segment → Bool
holds_word a s = is_executable s && (nat_le s.vaddr a && nat_le (a + 4) (s.vaddr + length s.bytes))

-- SHF_ALLOC and SHF_EXECINSTR of a section's attributes, and a type other than SHT_NOBITS
abbrev pub is_code_section : Section → Bool
is_code_section s = bit s.flags 1 && (bit s.flags 2 && not (s.kind == 8))

-- the four bytes from the address on are in a section of code, or in an executable segment
abbrev pub section_has : ℕ → Section → Bool
section_has a s = is_code_section s && (nat_le s.addr a && nat_le (a + 4) (s.addr + s.size))

abbrev pub segment_has : ℕ → Segment → Bool
segment_has a s = is_executable s && (nat_le s.vaddr a && nat_le (a + 4) (s.vaddr + s.memsz))

-- code ranges are the sections of code; where there are no sections, the executable segments
abbrev pub is_in_code_range : List Section → List Segment → ℕ → Bool
is_in_code_range [] segments a = list_any (segment_has a) segments
is_in_code_range (s ∷ ss) segments a = list_any (section_has a) (s ∷ ss)

-- a code word stands at the address: a multiple of four, wholly in a code range, and wholly in the
-- file's bytes of an executable segment
abbrev pub is_code_word : Elf → ℕ → Bool
is_code_word e a =
    (a % 4 == 0) && (is_in_code_range e.sections e.segments a && list_any (holds_word a) e.segments)

-- the little-endian word of four addresses
abbrev pub word_of : Elf → ℕ → ℕ
word_of e a = raw Word (first_byte e) a

abbrev pub word_at : Elf → ℕ → Option ℕ
word_at e a = if is_code_word e a then Some (word_of e a) else None

-- the instruction of the code word at an address
abbrev pub code_at : Elf → ℕ → Option Instr
code_at e a = if is_code_word e a then instruction_of (word_of e a) else None

abbrev pub program_of : Elf → Program
program_of e = record {
  class = class_of_line e;
  first = first_byte e;
  code = code_at e;
  entry = e.entry;
}

-- the word has a row
abbrev pub is_supported_word : ℕ → Bool
is_supported_word word = is_some (instruction_of word)

-- every code word has a row
pub record AllSupported (e : Elf) : Type 0 where
  pub supported : (a : ℕ) → is_code_word e a ≡ true → is_supported_word (word_of e a) ≡ true

-- the lowest code word at or above an address
pub record IsNextCode (e : Elf) (from a : ℕ) : Type 0 where
  pub at_least : from ≤ a
  pub code_word : is_code_word e a ≡ true
  pub lowest : (b : ℕ) → from ≤ b → b < a → is_code_word e b ≡ false

-- the maximal ranges of the lines of some classes
pub record AreRangesOf (classes : Class → Bool) (e : Elf) (ranges : List Lines) : Type 0 where
  pub lines : (line : ℕ) → is_in ranges line ≡ classes (class_of_line e line)
  pub apart : AllPairs (λ r q. r.first + r.lines < q.first) ranges

-- the maximal ranges of shared lines
abbrev pub AreSharedRanges : Elf → List Lines → Type 0
AreSharedRanges e ranges = AreRangesOf is_shared e ranges

-- the maximal ranges of read-only lines
abbrev pub AreReadOnlyRanges : Elf → List Lines → Type 0
AreReadOnlyRanges e ranges = AreRangesOf is_read_only e ranges
