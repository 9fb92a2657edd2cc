-- Helps the code alone: how a memory of lines is kept.
use Rattle.std.specs.Prelude.{◌≡◌, ℕ, ◌+◌, ◌-◌, ◌*◌, ◌/◌, ◌%◌, ◌^◌, ◌≤◌, nat_lt, if◌then◌else◌, List, [], ◌∷◌, Option, Some, None, map, length}
use Rattle.std.specs.Option.{option_map}
use Rattle.byte_range.specs.Range.{Range}
use Rattle.byte_range.specs.Lines.{place_of, line_count, Ascend}
use Rattle.byte_range.specs.declared.lines.LineRange.{LineRange}
use Rattle.byte_range.specs.declared.lines.PlacedRange.{PlacedRange}

abbrev pub lines_of : PlacedRange → LineRange
lines_of p = p.lines

-- the ranges with the places of their first lines, of which the first is n
abbrev pub pieces_from : ℕ → List LineRange → List PlacedRange
pieces_from n [] = []
pieces_from n (r ∷ rs) = record { lines = r; start = n } ∷ pieces_from (n + r.count) rs

-- the first address of the first range, and how many bytes that has
abbrev pub first_address : List PlacedRange → ℕ
first_address [] = 0
first_address (p ∷ ps) = 64 * p.lines.first

abbrev pub first_length : List PlacedRange → ℕ
first_length [] = 0
first_length (p ∷ ps) = 64 * p.lines.count

-- where an address's byte stands among the bytes of the lines
abbrev pub offset_in : List LineRange → ℕ → Option ℕ
offset_in ranges a = option_map (λ k. 64 * k + a % 64) (place_of ranges (a / 64))

-- the place of a line in a piece
abbrev pub place_in_piece : PlacedRange → ℕ → Option ℕ
place_in_piece p line =
    if nat_lt (line - p.lines.first) p.lines.count
    then Some (p.start + (line - p.lines.first))
    else None

-- the piece starts at the line or before it, and no other one has the line
pub record IsPieceOf (ranges : List LineRange) (line : ℕ) (p : PlacedRange) : Type 0 where
  pub starts : p.lines.first ≤ line
  pub place : place_of ranges line ≡ place_in_piece p line
  pub few : p.start + p.lines.count ≤ 2 ^ 25

-- what is kept of a memory of lines
pub record IsLineMemory (pieces : List PlacedRange) (base len : ℕ) (flat : Range) : Type 0 where
  pub ascend : Ascend 0 (map lines_of pieces)
  pub starts : pieces ≡ pieces_from 0 (map lines_of pieces)
  pub first : base ≡ first_address pieces
  pub first_len : len ≡ first_length pieces
  pub flat_base : flat.base ≡ 0
  pub flat_len : length flat.bytes ≡ 64 * line_count (map lines_of pieces)
