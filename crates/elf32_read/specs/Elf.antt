-- An executable by the fields of its ELF header, program headers and section headers
-- (System V ABI, "Object Files" and "Program Loading": ELF Header, Section Header, Program Header).
use Rattle.std.specs.Prelude.{ℕ, ◌+◌, ◌^◌, Bool, ◌&&◌, ◌||◌, ◌==◌, nat_lt, nat_le, List, length}
use Rattle.std.specs.List.{list_all, sum_by}

-- a loadable segment: permissions, first address, bytes in memory, and the bytes that the file has
pub record Segment : Type 0 where
  pub flags : ℕ
  pub vaddr : ℕ
  pub memsz : ℕ
  pub bytes : List ℕ

-- a section: name, type, attributes, address, size, and the bytes that the file has for it
pub record Section : Type 0 where
  pub name : List ℕ
  pub kind : ℕ
  pub flags : ℕ
  pub addr : ℕ
  pub size : ℕ
  pub bytes : List ℕ

pub record Elf : Type 0 where
  pub entry : ℕ
  pub flags : ℕ
  pub segments : List Segment
  pub sections : List Section

-- the segment's bytes are no more than its memory, which ends at 2^32 at most
abbrev pub is_placed : Segment → Bool
is_placed s = nat_le (length s.bytes) s.memsz && nat_le (s.vaddr + s.memsz) (2 ^ 32)

-- each segment is so
abbrev pub are_placed : List Segment → Bool
are_placed segments = list_all is_placed segments

-- no flag but EF_RISCV_TSO, 0x10 (RISC-V ELF psABI: e_flags)
abbrev pub are_known_flags : ℕ → Bool
are_known_flags flags = (flags == 0) || (flags == 0x10)

-- how many bytes the file has for segments, and for sections
abbrev pub segments_size : List Segment → ℕ
segments_size segments = sum_by (λ s. length s.bytes) segments

abbrev pub sections_size : List Section → ℕ
sections_size sections = sum_by (λ s. length s.bytes) sections

-- 1 to 1,000 segments, each placed, at most 1,000 sections, known flags, and 1 GiB of bytes at most
abbrev pub is_in_limits : Elf → Bool
is_in_limits e =
    nat_lt 0 (length e.segments) && (nat_le (length e.segments) 1000
    && (nat_le (length e.sections) 1000 && (are_known_flags e.flags && (are_placed e.segments
    && nat_le (segments_size e.segments + sections_size e.sections) (2 ^ 30)))))
