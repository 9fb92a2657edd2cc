-- Helps the code alone: what the symbols of the code stand for, and the one found so far.
use Rattle.std.specs.Prelude.{◌≡◌, ℕ, ◌<◌, ◌≤◌, true, false, List, ◌∷◌, ◌++◌, All, Option, MatchOption}
use Rattle.elf_symbols.specs.declared.Symbol as declared
use Rattle.elf_symbols.specs.Symbols.{Symbol, covers}

abbrev pub symbol_of : declared.Symbol → Symbol
symbol_of s = record { name = s.name.now; value = s.value; size = s.size }

-- none of these functions has the byte at an address
abbrev pub HasNone : (symbols : List Symbol) (address : ℕ) → Type 0
HasNone symbols address = All (λ s. covers address s ≡ false) symbols

-- of these functions that have the byte at an address this one begins last, and those of them that
-- stand before it begin before it
pub record IsFirstAt (symbols : List Symbol) (address : ℕ) (s : Symbol) : Type 0 where
  pub front : List Symbol
  pub back : List Symbol
  pub among : symbols ≡ front ++ s ∷ back
  pub has : covers address s ≡ true
  pub last : All (λ o. covers address o ≡ true → o.value ≤ s.value) symbols
  pub first : All (λ o. covers address o ≡ true → o.value < s.value) front

-- this is the function at an address, of those seen so far, or there is none
abbrev pub IsFound : (seen : List Symbol) (address : ℕ) → Option declared.Symbol → Type 0
IsFound seen address found =
    MatchOption found (HasNone seen address) (λ s. IsFirstAt seen address (symbol_of s))
