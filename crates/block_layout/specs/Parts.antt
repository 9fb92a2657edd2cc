-- Helps the code alone: a line taken apart at its spaces.
use Rattle.std.specs.Prelude.{◌≡◌, ℕ, Bool, true, not, ◌==◌, List, [], ◌∷◌, ◌++◌}
use Rattle.std.specs.List.{list_all}
use Rattle.block_layout.specs.declared.layout.BlockRange.{BlockRange}
use Rattle.block_layout.specs.Text.{spaces, IsHexadecimal, IsDecimal, IsHomeWord}

abbrev pub is_space : ℕ → Bool
is_space c = c == 32

abbrev pub is_mark : ℕ → Bool
is_mark c = not (c == 32)

abbrev pub Begins : List ℕ → Type 0
Begins [] = ⊥
Begins (c ∷ cs) = is_mark c ≡ true

-- a word without spaces, one space or more, and then what begins with another mark
pub record SplitsAtGap (text word rest : List ℕ) : Type 0 where
  pub gap : ℕ
  pub text_is : text ≡ word ++ (spaces gap ++ rest)
  pub no_space : list_all is_mark word ≡ true
  pub begins : Begins rest

-- four words with spaces between them
pub record AreWords (line a b c d : List ℕ) : Type 0 where
  pub behind : List ℕ
  pub far : List ℕ
  pub first : SplitsAtGap line a behind
  pub second : SplitsAtGap behind b far
  pub third : SplitsAtGap far c d

-- the numbers of four words
pub record AreFields (a b c d : List ℕ) (r : BlockRange) : Type 0 where
  pub start : IsHexadecimal a r.start
  pub length : IsHexadecimal b r.length
  pub block : IsDecimal 5 c r.block
  pub home : IsHomeWord d r.home
