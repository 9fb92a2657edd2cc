-- The executables that are written.
use Rattle.std.specs.Prelude.{◌≡◌, ◌/◌, ◌%◌, ◌^◌, ◌<◌, Bool, true, not, ◌&&◌, ◌==◌, nat_lt, nat_le, length}
use Rattle.std.specs.List.{list_all, list_any}
use Rattle.elf32_read.specs.Elf.{Elf, Segment, Section, is_in_limits}

-- a short name without a zero byte
abbrev pub has_plain_name : Section → Bool
has_plain_name s = nat_le (length s.name) 64 && not (list_any (λ b. b == 0) s.name)

-- a section that is in no segment's memory, and whose bytes are all in the file: without
-- SHF_ALLOC (2), not of type SHT_NOBITS (8)
abbrev pub is_plain : Section → Bool
is_plain s =
    (s.flags / 2 % 2 == 0)
    && (not (s.kind == 8) && ((s.size == length s.bytes) && has_plain_name s))

-- an executable in the limits, of plain sections
abbrev pub is_writable : Elf → Bool
is_writable e = is_in_limits e && list_all is_plain e.sections

-- each number is one of 32 bits, as in the fields of a file
abbrev pub has_segment_words : Segment → Bool
has_segment_words s =
    nat_lt s.flags (2 ^ 32) && (nat_lt s.vaddr (2 ^ 32) && nat_lt s.memsz (2 ^ 32))

abbrev pub has_section_words : Section → Bool
has_section_words s =
    nat_lt s.kind (2 ^ 32) && (nat_lt s.flags (2 ^ 32) && nat_lt s.addr (2 ^ 32))

pub record HasWords (e : Elf) : Type 0 where
  pub entry : e.entry < 2 ^ 32
  pub segments : list_all has_segment_words e.segments ≡ true
  pub sections : list_all has_section_words e.sections ≡ true
