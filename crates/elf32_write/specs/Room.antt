-- Helps the code alone: room for segments and sections after what stands before them.
use Rattle.std.specs.Prelude.{ℕ, ◌+◌, ◌^◌, List, [], ◌∷◌, length}
use Rattle.elf32_read.specs.Elf.{Segment, Section}

-- more than these never stand after an offset
abbrev pub segments_room : List Segment → ℕ
segments_room [] = 0
segments_room (s ∷ ss) = (4096 + length s.bytes) + segments_room ss

abbrev pub sections_room : List Section → ℕ
sections_room [] = 0
sections_room (s ∷ ss) = ((5 + length s.bytes) + length s.name) + sections_room ss

-- twice this is below 2^32
abbrev pub room_limit : ℕ
room_limit = 2 ^ 30 + 2 ^ 23
