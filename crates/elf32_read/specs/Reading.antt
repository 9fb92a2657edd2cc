-- The executable that a file holds: its loadable segments, and its sections with their names
-- (System V ABI, "Program Loading": Program Header; "Object Files": Section Header, String Table).
use Rattle.std.specs.Prelude.{ℕ, ◌+◌, ◌-◌, Bool, not, ◌||◌, ◌==◌, nat_lt, nat_le, if◌then◌else◌, List, [], take, drop, length, map, filter, position, slice_range, Option, Some, None}
use Rattle.std.specs.List.{range_with_len}
use Rattle.elf32_read.specs.Elf.{Elf, Segment, Section}
use Rattle.elf32_read.specs.declared.headers.ProgramHeader.{ProgramHeader}
use Rattle.elf32_read.specs.declared.headers.SectionHeader.{SectionHeader}
use Rattle.elf32_read.specs.Fields.{file_header, program_headers, section_header}

-- so many bytes from an offset on are in the file
abbrev pub has_range : List ℕ → ℕ → ℕ → Bool
has_range file offset size = nat_le (offset + size) (length file)

-- p_type is PT_LOAD
abbrev pub is_load : ProgramHeader → Bool
is_load h = h.p_type == 1

abbrev pub segment_in : List ℕ → ProgramHeader → Segment
segment_in file h = record {
  flags = h.p_flags;
  vaddr = h.p_vaddr;
  memsz = h.p_memsz;
  bytes = slice_range file h.p_offset (h.p_offset + h.p_filesz);
}

-- sh_type is SHT_NOBITS, or the range isn't in the file
abbrev pub has_no_bytes : List ℕ → SectionHeader → Bool
has_no_bytes file h = (h.sh_type == 8) || not (has_range file h.sh_offset h.sh_size)

abbrev pub section_bytes : List ℕ → SectionHeader → List ℕ
section_bytes file h =
    if has_no_bytes file h then [] else slice_range file h.sh_offset (h.sh_offset + h.sh_size)

-- the bytes of the section of number e_shstrndx, where the table has it
abbrev pub section_names : List ℕ → List ℕ
section_names file =
    if nat_lt (file_header file).e_shstrndx (file_header file).e_shnum
    then section_bytes file (section_header file (file_header file).e_shstrndx)
    else []

-- the bytes before the first zero byte, or none where no byte is zero
abbrev pub before_zero : List ℕ → Option ℕ → List ℕ
before_zero bytes (Some end) = take end bytes
before_zero bytes None = []

-- the name that begins at an offset in the names
abbrev pub name_at : List ℕ → ℕ → List ℕ
name_at names offset = before_zero (drop offset names) (position (λ b. b == 0) (drop offset names))

abbrev pub section_in : List ℕ → SectionHeader → Section
section_in file h = record {
  name = name_at (section_names file) h.sh_name;
  kind = h.sh_type;
  flags = h.sh_flags;
  addr = h.sh_addr;
  size = h.sh_size;
  bytes = section_bytes file h;
}

-- the numbers of the sections, but for 0 and that of the names
abbrev pub section_numbers : List ℕ → List ℕ
section_numbers file =
    filter (λ n. not (n == (file_header file).e_shstrndx))
    (range_with_len 1 ((file_header file).e_shnum - 1))

abbrev pub elf_of : List ℕ → Elf
elf_of file = record {
  entry = (file_header file).e_entry;
  flags = (file_header file).e_flags;
  segments = map (segment_in file) (filter is_load (program_headers file));
  sections = map (λ n. section_in file (section_header file n)) (section_numbers file);
}
