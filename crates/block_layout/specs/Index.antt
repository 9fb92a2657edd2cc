-- Helps the code alone: the blocks as pieces of equal blocks, ascending.
use Rattle.std.specs.Prelude.{◌≡◌, ℕ, ◌+◌, ◌*◌, ◌^◌, ◌<◌, ◌≤◌, true, false, List, [], ◌∷◌, ◌++◌, ◌⊎◌, Option, None, Some, All}
use Rattle.block_layout.specs.declared.index.BlockRun.{BlockRun}
use Rattle.block_layout.specs.declared.index.Index.{Index}
use Rattle.block_layout.specs.Layout.{Shape, IsValid, is_shared, first_at, begins_block, blocks_before, shared_before, size_at, range_of, named_home}

-- block b begins at a line, with this size, home and number of shared lines before it
pub record IsBlockAt (s : Shape) (b line size : ℕ) (home : Option ℕ) (start : ℕ) : Type 0 where
  pub begins : begins_block s line ≡ true
  pub number : blocks_before s line ≡ b
  pub size_is : size_at s line ≡ size
  pub home_is : named_home (range_of s line) ≡ home
  pub start_is : shared_before s line ≡ start

-- each block of a piece
pub record IsPiece (s : Shape) (p : BlockRun) : Type 0 where
  pub some : 0 < p.count
  pub each : (k : ℕ) → k < p.count →
      IsBlockAt s (p.block + k) (p.first + k * p.size) p.size p.home (p.start + k * p.size)

-- pieces whose blocks are numbered one after another, from a number on and up to another
abbrev pub AreChained : ℕ → List BlockRun → ℕ → Type 0
AreChained b [] n = b ≡ n
AreChained b (p ∷ ps) n = (p.block ≡ b) × AreChained (p.block + p.count) ps n

-- the index of the lines below a line
pub record IsIndexBelow (s : Shape) (line : ℕ) (x : Index) : Type 0 where
  pub pieces : All (IsPiece s) x.pieces.items
  pub chained : AreChained 0 x.pieces.items x.blocks
  pub blocks : x.blocks ≡ blocks_before s line
  pub lines : x.lines ≡ shared_before s line

pub record IsIndex (s : Shape) (x : Index) : Type 0 where
  pub valid : IsValid s
  pub all : IsIndexBelow s (2 ^ 26) x

-- the piece of a layout that has block b
pub record IsPieceOf (s : Shape) (b : ℕ) (p : BlockRun) : Type 0 where
  pub valid : IsValid s
  pub from : p.block ≤ b
  pub to : b < p.block + p.count
  pub is : IsPiece s p

-- the piece is the last that begins at a line or below: it has a shared line's block
pub record IsBegun (s : Shape) (line : ℕ) (p : BlockRun) : Type 0 where
  pub valid : IsValid s
  pub is : IsPiece s p
  pub low : p.first ≤ line
  pub has : is_shared s line ≡ true → IsPieceOf s (blocks_before s (first_at s line)) p

abbrev pub IsLastBegun : Shape → ℕ → Option BlockRun → Type 0
IsLastBegun s line None = is_shared s line ≡ false
IsLastBegun s line (Some p) = IsBegun s line p

-- a piece goes on with the blocks of another
pub record IsFollowedBy (p next : BlockRun) : Type 0 where
  pub size_is : p.size ≡ next.size
  pub home_is : p.home ≡ next.home
  pub first_is : p.first + p.count * p.size ≡ next.first

-- the last piece has one block more
pub record ExtendsLast (old : List BlockRun) (next : BlockRun) (new : List BlockRun) : Type 0 where
  pub front : List BlockRun
  pub last : BlockRun
  pub old_is : old ≡ front ++ last ∷ []
  pub followed : IsFollowedBy last next
  pub new_is : new ≡ front ++ record last { count = last.count + 1 } ∷ []

-- a block is added, to the last piece or as a piece
abbrev pub AddsPiece : List BlockRun → BlockRun → List BlockRun → Type 0
AddsPiece old next new = ExtendsLast old next new ⊎ (new ≡ old ++ next ∷ [])
