-- The fields of a file by their positions in it, each little-endian
-- (System V ABI, "Object Files": ELF Header, Section Header; "Program Loading": Program Header).
use Rattle.std.specs.Prelude.{ℕ, ◌+◌, ◌*◌, ◌^◌, List, map, slice_index}
use Rattle.std.specs.List.{range_with_len}
use Rattle.elf32_read.specs.declared.headers.FileHeader.{FileHeader}
use Rattle.elf32_read.specs.declared.headers.ProgramHeader.{ProgramHeader}
use Rattle.elf32_read.specs.declared.headers.SectionHeader.{SectionHeader}

-- the halfword at an offset; a byte beyond the end counts as zero
unfoldable pub half_at : List ℕ → ℕ → ℕ
half_at file offset = slice_index file offset + 2 ^ 8 * slice_index file (offset + 1)

-- the word at an offset
unfoldable pub word_at : List ℕ → ℕ → ℕ
word_at file offset = half_at file offset + 2 ^ 16 * half_at file (offset + 2)

-- ELF Header
unfoldable pub file_header : List ℕ → FileHeader
file_header file = record {
  e_type = half_at file 16;
  e_machine = half_at file 18;
  e_entry = word_at file 24;
  e_phoff = word_at file 28;
  e_shoff = word_at file 32;
  e_flags = word_at file 36;
  e_phentsize = half_at file 42;
  e_phnum = half_at file 44;
  e_shentsize = half_at file 46;
  e_shnum = half_at file 48;
  e_shstrndx = half_at file 50;
}

-- Program Header, the one at an offset
unfoldable pub program_header_at : List ℕ → ℕ → ProgramHeader
program_header_at file offset = record {
  p_type = word_at file offset;
  p_offset = word_at file (offset + 4);
  p_vaddr = word_at file (offset + 8);
  p_filesz = word_at file (offset + 16);
  p_memsz = word_at file (offset + 20);
  p_flags = word_at file (offset + 24);
}

-- Section Header, the one at an offset
unfoldable pub section_header_at : List ℕ → ℕ → SectionHeader
section_header_at file offset = record {
  sh_name = word_at file offset;
  sh_type = word_at file (offset + 4);
  sh_flags = word_at file (offset + 8);
  sh_addr = word_at file (offset + 12);
  sh_offset = word_at file (offset + 16);
  sh_size = word_at file (offset + 20);
}

-- the headers of each table stand one after another
abbrev pub program_header : List ℕ → ℕ → ProgramHeader
program_header file index = program_header_at file ((file_header file).e_phoff + 32 * index)

abbrev pub section_header : List ℕ → ℕ → SectionHeader
section_header file index = section_header_at file ((file_header file).e_shoff + 40 * index)

abbrev pub program_headers : List ℕ → List ProgramHeader
program_headers file = map (program_header file) (range_with_len 0 (file_header file).e_phnum)
