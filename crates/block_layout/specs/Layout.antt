-- The blocks of the shared memory: ranges of it may have a block size and a home of their own
-- (Scales, Gharachorloo and Thekkath, "Shasta", 1996, section 2).
-- A line has 64 bytes, and is named by its address divided by 64. A block is one line or more.
use Rattle.std.specs.Prelude.{◌≡◌, ℕ, zero, suc, ◌+◌, ◌*◌, ◌/◌, ◌%◌, ◌^◌, ◌<◌, ◌≤◌, Bool, true, false, ◌==◌, ◌&&◌, nat_lt, nat_le, if◌then◌else◌, List, [], ◌∷◌, ◌++◌, length, find, slice_index, Option, None, Some, unwrap_or, All, AllPairs}
use Rattle.std.specs.List.{list_any}
use Rattle.block_layout.specs.declared.ranges.Lines.{Lines}
use Rattle.block_layout.specs.declared.layout.BlockRange.{BlockRange}

-- the shared lines, the ranges that a layout names, and the number of nodes
pub record Shape : Type 0 where
  pub shared : List Lines
  pub named : List BlockRange
  pub nodes : ℕ

-- the line is one of these
abbrev pub is_among : ℕ → Lines → Bool
is_among line r = nat_le r.first line && nat_lt line (r.first + r.lines)

abbrev pub is_in : List Lines → ℕ → Bool
is_in shared line = list_any (is_among line) shared

-- the line is shared
unfoldable pub is_shared : Shape → ℕ → Bool
is_shared s line = is_in s.shared line

-- the range has the line
abbrev pub names : ℕ → BlockRange → Bool
names line r = nat_le r.start (64 * line) && nat_lt (64 * line) (r.start + r.length)

-- the range that has a line, by a search of the list
abbrev pub range_of : Shape → ℕ → Option BlockRange
range_of s line = find (names line) s.named

-- how many lines a block has: that of a line in no range is the line alone
abbrev pub lines_in : Option BlockRange → ℕ
lines_in None = 1
lines_in (Some r) = r.block / 64

-- how many lines the block of a line has
unfoldable pub size_at : Shape → ℕ → ℕ
size_at s line = lines_in (range_of s line)

-- where the block of a line begins: a range is cut at the multiples of its block size
unfoldable pub first_at : Shape → ℕ → ℕ
first_at s line = line / size_at s line * size_at s line

-- where no node is named the homes go round with the pages of 4,096 bytes
abbrev pub home_in_turn : ℕ → ℕ → ℕ
home_in_turn nodes line = 64 * line / 4096 % nodes

abbrev pub named_home : Option BlockRange → Option ℕ
named_home None = None
named_home (Some r) = r.home

-- the home of the block that begins with a line
unfoldable pub home_at : Shape → ℕ → ℕ
home_at s line = unwrap_or (named_home (range_of s line)) (home_in_turn s.nodes line)

-- a block begins with the line
unfoldable pub begins_block : Shape → ℕ → Bool
begins_block s line = is_shared s line && first_at s line == line

-- the numbers below n that pass a test, ascending
unfoldable pub passing : (ℕ → Bool) → ℕ → List ℕ
passing p zero = []
passing p (suc n) = if p n then passing p n ++ n ∷ [] else passing p n

-- how many blocks begin below a line
unfoldable pub blocks_before : Shape → ℕ → ℕ
blocks_before s line = length (passing (begins_block s) line)

-- how many lines below a line are shared
unfoldable pub shared_before : Shape → ℕ → ℕ
shared_before s line = length (passing (is_shared s) line)

-- the number of shared lines
unfoldable pub shared_lines : Shape → ℕ
shared_lines s = shared_before s (2 ^ 26)

-- the number of blocks
unfoldable pub blocks : Shape → ℕ
blocks s = blocks_before s (2 ^ 26)

-- the first line of a block: blocks are numbered from 0 as they begin, ascending
unfoldable pub first_line : Shape → ℕ → ℕ
first_line s b = slice_index (passing (begins_block s) (2 ^ 26)) b

-- the number of lines of a block
unfoldable pub lines : Shape → ℕ → ℕ
lines s b = size_at s (first_line s b)

-- the home of a block
unfoldable pub home : Shape → ℕ → ℕ
home s b = home_at s (first_line s b)

-- the number of shared lines below a block
unfoldable pub start : Shape → ℕ → ℕ
start s b = shared_before s (first_line s b)

-- the block of a line, where it is shared
unfoldable pub block_of : Shape → ℕ → Option ℕ
block_of s line = if is_shared s line then Some (blocks_before s (first_at s line)) else None

-- the place of a line among the shared lines, where it is shared
unfoldable pub place_of : Shape → ℕ → Option ℕ
place_of s line = if is_shared s line then Some (shared_before s line) else None

-- the block has the line
unfoldable pub has_line : Shape → ℕ → ℕ → Bool
has_line s b line = nat_le (first_line s b) line && nat_lt line (first_line s b + lines s b)

-- lines below 2^26, ascending, without overlap and without an empty range
pub record AreRanges (rs : List Lines) : Type 0 where
  pub some : All (λ r. 0 < r.lines) rs
  pub low : All (λ r. r.first + r.lines ≤ 2 ^ 26) rs
  pub ascending : AllPairs (λ r q. r.first + r.lines ≤ q.first) rs

-- a block has 64, 128, 256, 512, 1024, 2048 or 4096 bytes
abbrev pub is_block_size : ℕ → Bool
is_block_size n = list_any (λ size. n == size) (64 ∷ 128 ∷ 256 ∷ 512 ∷ 1024 ∷ 2048 ∷ 4096 ∷ [])

-- the range is one block or more
abbrev pub is_whole : BlockRange → Bool
is_whole r = nat_lt 0 r.length && (r.start % r.block == 0 && r.length % r.block == 0)

-- the home, where one is named, is one of the nodes
abbrev pub is_home : ℕ → Option ℕ → Bool
is_home nodes None = true
is_home nodes (Some h) = nat_lt h nodes

-- a range of shared lines, cut into blocks
pub record IsRange (shared : List Lines) (nodes : ℕ) (r : BlockRange) : Type 0 where
  pub size : is_block_size r.block ≡ true
  pub whole : is_whole r ≡ true
  pub lines : (line : ℕ) → names line r ≡ true → is_in shared line ≡ true
  pub home : is_home nodes r.home ≡ true

-- two ranges have no line in common
abbrev pub AreApart : BlockRange → BlockRange → Type 0
AreApart r q = (line : ℕ) → names line r ≡ true → names line q ≡ false

-- 1 to 16 nodes, ranges of shared lines, and no line in two of them
pub record IsValid (s : Shape) : Type 0 where
  pub some_node : 0 < s.nodes
  pub few_nodes : s.nodes ≤ 16
  pub shared : AreRanges s.shared
  pub named : All (IsRange s.shared s.nodes) s.named
  pub apart : AllPairs AreApart s.named
