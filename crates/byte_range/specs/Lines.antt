-- The bytes of ranges of lines of 64 bytes, one line after the other.
use Rattle.std.specs.Prelude.{ℕ, ◌+◌, ◌-◌, ◌*◌, ◌/◌, ◌%◌, ◌^◌, ◌≤◌, Bool, ◌&&◌, nat_le, nat_lt, if◌then◌else◌, List, [], ◌∷◌, Option, Some, None, slice_index}
use Rattle.std.specs.Option.{option_map}
use Rattle.byte_range.specs.declared.lines.LineRange.{LineRange}

-- the range has the line
abbrev pub has_line : LineRange → ℕ → Bool
has_line r line = nat_le r.first line && nat_lt line (r.first + r.count)

-- the place of a line among the lines of the ranges, from 0; None where no range has it
abbrev pub place_of : List LineRange → ℕ → Option ℕ
place_of [] line = None
place_of (r ∷ rs) line =
    if has_line r line then Some (line - r.first)
    else option_map (λ k. r.count + k) (place_of rs line)

-- how many lines the ranges have
abbrev pub line_count : List LineRange → ℕ
line_count [] = 0
line_count (r ∷ rs) = r.count + line_count rs

-- the ranges ascend, from this line on, and none passes the lower half of the address space
abbrev pub Ascend : ℕ → List LineRange → Type 0
Ascend low [] = low ≤ 2 ^ 25
Ascend low (r ∷ rs) = (low ≤ r.first) × Ascend (r.first + r.count) rs

-- the ranges, and the bytes of their lines
pub record LineBytes : Type 0 where
  pub ranges : List LineRange
  pub bytes : List ℕ

-- the byte of an address whose line has this place, or what is outside of the lines
abbrev pub byte_of_place : List ℕ → (ℕ → ℕ) → ℕ → Option ℕ → ℕ
byte_of_place bytes outside a None = outside a
byte_of_place bytes outside a (Some k) = slice_index bytes (64 * k + a % 64)

-- a memory that is the bytes of the lines, with what is outside of them
unfoldable pub lines_memory : LineBytes → (ℕ → ℕ) → ℕ → ℕ
lines_memory m outside a = byte_of_place m.bytes outside a (place_of m.ranges (a / 64))
