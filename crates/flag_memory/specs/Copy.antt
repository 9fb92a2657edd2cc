-- What contracts see of a node's copy of the shared memory.
use Rattle.std.specs.Prelude.{◌≡◌, ℕ, zero, suc, ◌+◌, ◌*◌, ◌/◌, ◌%◌, ◌<◌, if◌then◌else◌, nat_lt, List, [], ◌∷◌, length, slice_index, slice_range}
use Rattle.block_layout.specs.Layout.{Shape, IsValid, is_shared, shared_before, shared_lines, blocks, start, lines, first_line}

-- the layout, and the bytes of the shared lines, ascending
pub record Copy : Type 0 where
  pub layout : Shape
  pub bytes : List ℕ

-- where the byte of an address stands among those of the shared lines
abbrev pub place : Shape → ℕ → ℕ
place layout a = 64 * shared_before layout (a / 64) + a % 64

-- the byte of an address, and 0 where its line isn't shared
unfoldable pub memory : Copy → ℕ → ℕ
memory c a = if is_shared c.layout (a / 64) then slice_index c.bytes (place c.layout a) else 0

-- where the bytes of a block begin among those of the shared lines
abbrev pub block_start : Shape → ℕ → ℕ
block_start layout b = 64 * start layout b

abbrev pub block_end : Shape → ℕ → ℕ
block_end layout b = block_start layout b + 64 * lines layout b

-- the bytes of a block
abbrev pub bytes_in : Shape → List ℕ → ℕ → List ℕ
bytes_in layout bytes b =
    if nat_lt b (blocks layout)
    then slice_range bytes (block_start layout b) (block_end layout b)
    else []

abbrev pub bytes_of : Copy → ℕ → List ℕ
bytes_of c b = bytes_in c.layout c.bytes b

-- so many bytes of a memory from an address on
abbrev pub bytes_from : (ℕ → ℕ) → (at n : ℕ) → List ℕ
bytes_from memory at zero = []
bytes_from memory at (suc n) = memory at ∷ bytes_from memory (at + 1) n

-- a byte for each byte of the shared lines
pub record IsCopy (layout : Shape) (bytes : List ℕ) : Type 0 where
  pub valid : IsValid layout
  pub len : length bytes ≡ 64 * shared_lines layout

-- the bytes of a block are those of its addresses
pub record CopyLaws (c : Copy) : Type 0 where
  pub len : (b : ℕ) → b < blocks c.layout → length (bytes_of c b) ≡ 64 * lines c.layout b
  pub get : (b k : ℕ) → b < blocks c.layout → k < 64 * lines c.layout b
      → slice_index (bytes_of c b) k ≡ memory c (64 * first_line c.layout b + k)
