-- The file that holds an executable in this project's layout: the ELF header, the program headers,
-- and the segments' bytes, each at the least offset that equals its address modulo the alignment;
-- then, where there are sections, the sections' bytes, the table of their names, and the section
-- headers, each at a multiple of four (System V ABI, "Object Files": ELF Header, Section Header,
-- String Table; "Program Loading": Program Header).
use Rattle.std.specs.Prelude.{ℕ, ◌+◌, ◌-◌, ◌*◌, ◌/◌, ◌%◌, ◌^◌, ◌==◌, if◌then◌else◌, List, [], ◌∷◌, ◌++◌, length, replicate, codes}
use Rattle.std.specs.List.{flat_map}
use Rattle.elf32_read.specs.Elf.{Elf, Segment, Section}
use Rattle.elf32_write.specs.declared.table.Table.{Table}

-- a little-endian halfword
unfoldable pub half : ℕ → List ℕ
half n = n % 256 ∷ n / 2 ^ 8 % 256 ∷ []

-- a little-endian word
unfoldable pub word : ℕ → List ℕ
word n = n % 256 ∷ n / 2 ^ 8 % 256 ∷ n / 2 ^ 16 % 256 ∷ n / 2 ^ 24 % 256 ∷ []

-- so many zero bytes
unfoldable pub zeros : ℕ → List ℕ
zeros count = replicate count 0

abbrev pub alignment : ℕ
alignment = 4096

-- the least offset that is not below the end so far and equals the address modulo the alignment
unfoldable pub placed : ℕ → ℕ → ℕ
placed end vaddr = end + (vaddr + (alignment - end % alignment)) % alignment

-- the next multiple of four
unfoldable pub aligned : ℕ → ℕ
aligned end = end + (4 - end % 4) % 4

-- where the headers end
abbrev pub headers_end : List Segment → ℕ
headers_end segments = 52 + 32 * length segments

-- where segments end that follow this end, and where sections do
abbrev pub segments_end : ℕ → List Segment → ℕ
segments_end end [] = end
segments_end end (s ∷ ss) = segments_end (placed end s.vaddr + length s.bytes) ss

abbrev pub sections_end : ℕ → List Section → ℕ
sections_end end [] = end
sections_end end (s ∷ ss) = sections_end (aligned end + length s.bytes) ss

-- the names of the sections one after another, each with a zero byte after it
abbrev pub name_list : List Section → List ℕ
name_list sections = flat_map (λ s. s.name ++ 0 ∷ []) sections

-- the table of names: a zero byte, the sections' names, and its own name
unfoldable pub names : List Section → List ℕ
names sections = 0 ∷ (name_list sections ++ (codes ".shstrtab" ++ 0 ∷ []))

-- where the table of names stands, and where the section headers do, after the segments' end
abbrev pub names_offset : ℕ → List Section → ℕ
names_offset end sections = aligned (sections_end end sections)

abbrev pub table_offset : ℕ → List Section → ℕ
table_offset end sections = aligned (names_offset end sections + length (names sections))

-- there are headers for section 0, the sections, and the table of names, or none where there is
-- no section
abbrev pub table_of : ℕ → List Section → Table
table_of end [] = record { offset = 0; entry_size = 0; count = 0; names = 0 }
table_of end (s ∷ ss) = record {
  offset = table_offset end (s ∷ ss);
  entry_size = 40;
  count = length (s ∷ ss) + 2;
  names = length (s ∷ ss) + 1;
}

-- magic number, 32 bits, little-endian, version 1, and nine bytes of padding
unfoldable pub identification : List ℕ
identification = 0x7f ∷ 0x45 ∷ 0x4c ∷ 0x46 ∷ 1 ∷ 1 ∷ 1 ∷ replicate 9 0

-- e_ident, e_type (executable), e_machine (RISC-V), e_version, e_entry, e_phoff, e_shoff, e_flags,
-- e_ehsize, e_phentsize, e_phnum, e_shentsize, e_shnum, e_shstrndx
unfoldable pub file_header : ℕ → ℕ → ℕ → Table → List ℕ
file_header entry flags segments table =
    identification ++ (half 2 ++ (half 243 ++ (word 1 ++ (word entry ++ (word 52
    ++ (word table.offset ++ (word flags ++ (half 52 ++ (half 32 ++ (half segments
    ++ (half table.entry_size ++ (half table.count ++ half table.names))))))))))))

-- p_type (loadable), p_offset, p_vaddr, p_paddr, p_filesz, p_memsz, p_flags, p_align
abbrev pub program_words : ℕ → Segment → List ℕ
program_words offset s =
    1 ∷ offset ∷ s.vaddr ∷ s.vaddr ∷ length s.bytes ∷ s.memsz ∷ s.flags ∷ alignment ∷ []

-- the program header of each segment
unfoldable pub program_table : ℕ → List Segment → List ℕ
program_table end [] = []
program_table end (s ∷ ss) =
    flat_map word (program_words (placed end s.vaddr) s)
    ++ program_table (placed end s.vaddr + length s.bytes) ss

-- the segments' bytes, with zeros before each
unfoldable pub segment_bytes : ℕ → List Segment → List ℕ
segment_bytes end [] = []
segment_bytes end (s ∷ ss) =
    zeros (placed end s.vaddr - end)
    ++ (s.bytes ++ segment_bytes (placed end s.vaddr + length s.bytes) ss)

-- the sections' bytes, with zeros before each
unfoldable pub section_bytes : ℕ → List Section → List ℕ
section_bytes end [] = []
section_bytes end (s ∷ ss) =
    zeros (aligned end - end) ++ (s.bytes ++ section_bytes (aligned end + length s.bytes) ss)

-- sh_name, sh_type, sh_flags, sh_addr, sh_offset, sh_size, sh_link, sh_info, sh_addralign,
-- sh_entsize
abbrev pub section_words : ℕ → ℕ → Section → List ℕ
section_words name offset s =
    name ∷ s.kind ∷ s.flags ∷ s.addr ∷ offset ∷ length s.bytes ∷ 0 ∷ 0 ∷ 1 ∷ 0 ∷ []

-- a name's offset in the table of names; an empty one is at the table's first byte
abbrev pub name_offset : ℕ → Section → ℕ
name_offset name s = if length s.name == 0 then 0 else name

-- the header of each section, where the end so far and the place of the next name are these
unfoldable pub section_table : ℕ → ℕ → List Section → List ℕ
section_table end name [] = []
section_table end name (s ∷ ss) =
    flat_map word (section_words (name_offset name s) (aligned end) s)
    ++ section_table (aligned end + length s.bytes) (name + (length s.name + 1)) ss

-- the header of the table of names, which is of type SHT_STRTAB and has its own name in its last
-- ten bytes
abbrev pub names_words : ℕ → ℕ → List ℕ
names_words offset size = (size - 10) ∷ 3 ∷ 0 ∷ 0 ∷ offset ∷ size ∷ 0 ∷ 0 ∷ 1 ∷ 0 ∷ []

-- what follows the segments' end
unfoldable pub section_part : ℕ → List Section → List ℕ
section_part end [] = []
section_part end (s ∷ ss) =
    section_bytes end (s ∷ ss)
    ++ (zeros (names_offset end (s ∷ ss) - sections_end end (s ∷ ss)) ++ (names (s ∷ ss)
    ++ (zeros (table_offset end (s ∷ ss) - (names_offset end (s ∷ ss) + length (names (s ∷ ss))))
    ++ (zeros 40 ++ (section_table end 1 (s ∷ ss)
    ++ flat_map word (names_words (names_offset end (s ∷ ss)) (length (names (s ∷ ss)))))))))

-- where the segments end
abbrev pub contents_end : Elf → ℕ
contents_end e = segments_end (headers_end e.segments) e.segments

-- the whole file
unfoldable pub file_of : Elf → List ℕ
file_of e =
    file_header e.entry e.flags (length e.segments) (table_of (contents_end e) e.sections)
    ++ (program_table (headers_end e.segments) e.segments
    ++ (segment_bytes (headers_end e.segments) e.segments
    ++ section_part (contents_end e) e.sections))
