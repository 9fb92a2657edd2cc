-- What a readable file has, which is that no rule fits it; and why a file is refused: each rule
-- with what it names, and the order of the rules (System V ABI, "Object Files": ELF Header; RISC-V
-- ELF psABI: e_flags).
use Rattle.std.specs.Prelude.{◌≡◌, ◌≢◌, ℕ, ◌+◌, ◌*◌, ◌^◌, ◌<◌, ◌≤◌, Bool, true, false, not, ◌&&◌, ◌||◌, ◌==◌, nat_eq, nat_lt, List, [], ◌∷◌, Some, None, length, slice_index, position}
use Rattle.std.specs.List.{starts_with}
use Rattle.elf32_read.specs.declared.headers.ProgramHeader.{ProgramHeader}
use Rattle.elf32_read.specs.declared.refused.FileRule.{FileRule}
use Rattle.elf32_read.specs.declared.refused.FileRule.TheVariants.{Short, NotElf, NotElf32, NotExec, NotRiscv, Flags, ProgramTable, SectionTable, Dynamic, SegmentOutside, SegmentSizes}
use Rattle.elf32_read.specs.Elf.{are_known_flags}
use Rattle.elf32_read.specs.Fields.{file_header, program_headers}
use Rattle.elf32_read.specs.Reading.{has_range, is_load}

-- the magic number
abbrev pub is_elf : List ℕ → Bool
is_elf file = starts_with nat_eq file (0x7f ∷ 0x45 ∷ 0x4c ∷ 0x46 ∷ [])

-- 32 bits, little-endian, version 1
abbrev pub is_elf32 : List ℕ → Bool
is_elf32 file =
    (slice_index file 4 == 1) && ((slice_index file 5 == 1) && (slice_index file 6 == 1))

-- there are program headers, each of 32 bytes, and the file has all of them
abbrev pub has_program_table : List ℕ → Bool
has_program_table file =
    let h = file_header file in
    not (h.e_phnum == 0) && ((h.e_phentsize == 32) && has_range file h.e_phoff (32 * h.e_phnum))

-- there are no section headers, or each is of 40 bytes, and the file has all of them
abbrev pub has_section_table : List ℕ → Bool
has_section_table file =
    let h = file_header file in
    (h.e_shnum == 0) || ((h.e_shentsize == 40) && has_range file h.e_shoff (40 * h.e_shnum))

-- PT_DYNAMIC or PT_INTERP
abbrev pub is_dynamic : ProgramHeader → Bool
is_dynamic h = (h.p_type == 2) || (h.p_type == 3)

abbrev pub is_outside : List ℕ → ProgramHeader → Bool
is_outside file h = is_load h && not (has_range file h.p_offset h.p_filesz)

-- more bytes in the file than in memory, or an end above 2^32
abbrev pub has_wrong_sizes : ProgramHeader → Bool
has_wrong_sizes h =
    is_load h && (nat_lt h.p_memsz h.p_filesz || nat_lt (2 ^ 32) (h.p_vaddr + h.p_memsz))

-- the rule fits the file, with the least program header that it may name
abbrev pub Fits : List ℕ → FileRule → Type 0
Fits file Short = length file < 52
Fits file NotElf = is_elf file ≡ false
Fits file NotElf32 = is_elf32 file ≡ false
Fits file (NotExec kind) = (kind ≡ (file_header file).e_type) × (kind ≢ 2)
Fits file (NotRiscv machine) = (machine ≡ (file_header file).e_machine) × (machine ≢ 243)
Fits file (Flags value) = (value ≡ (file_header file).e_flags) × (are_known_flags value ≡ false)
Fits file ProgramTable = has_program_table file ≡ false
Fits file SectionTable = has_section_table file ≡ false
Fits file (Dynamic header) = position is_dynamic (program_headers file) ≡ Some header
Fits file (SegmentOutside header) = position (is_outside file) (program_headers file) ≡ Some header
Fits file (SegmentSizes header) = position has_wrong_sizes (program_headers file) ≡ Some header

-- the number of a rule; rules are judged in the order of their numbers
abbrev pub number_of : FileRule → ℕ
number_of Short = 1
number_of NotElf = 2
number_of NotElf32 = 3
number_of (NotExec kind) = 4
number_of (NotRiscv machine) = 5
number_of (Flags value) = 6
number_of ProgramTable = 7
number_of SectionTable = 8
number_of (Dynamic header) = 9
number_of (SegmentOutside header) = 10
number_of (SegmentSizes header) = 11

-- the file is refused first by this rule
pub record IsRefusedBy (file : List ℕ) (r : FileRule) : Type 0 where
  pub fits : Fits file r
  pub first : (q : FileRule) → Fits file q → number_of r ≤ number_of q

-- An executable of 32 bits for RISC-V, with known flags: the file has both tables and the bytes of
-- each loadable segment, and no program header asks for a dynamic linker.
pub record IsReadable (file : List ℕ) : Type 0 where
  pub whole : 52 ≤ length file
  pub elf : is_elf file ≡ true
  pub elf32 : is_elf32 file ≡ true
  pub executable : (file_header file).e_type ≡ 2
  pub riscv : (file_header file).e_machine ≡ 243
  pub flags : are_known_flags (file_header file).e_flags ≡ true
  pub program_table : has_program_table file ≡ true
  pub section_table : has_section_table file ≡ true
  pub static : position is_dynamic (program_headers file) ≡ None
  pub inside : position (is_outside file) (program_headers file) ≡ None
  pub sizes : position has_wrong_sizes (program_headers file) ≡ None
