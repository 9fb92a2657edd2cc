-- Helps the code alone: the functions of a table while one goes through the addresses, ascending.
use Rattle.std.specs.Prelude.{◌≡◌, ℕ, ◌+◌, ◌-◌, ◌<◌, ◌≤◌, ◌⊎◌, ◌&&◌, nat_le, nat_lt, if◌then◌else◌, Bool, List, [], ◌∷◌, ◌++◌, All, Contains, length, take, drop, slice_index_or, Option, None, Some}
use Rattle.elf_symbols.specs.Symbols.{Symbol}
use Rattle.check_costs.specs.declared.functions.Function.{Function}
use Rattle.check_costs.specs.declared.functions.Functions.{Functions}

abbrev pub covers_byte : (address : ℕ) → Function → Bool
covers_byte a f = nat_le f.begin a && nat_lt a f.end

abbrev pub later_of : Option Function → Option Function → Option Function
later_of f None = f
later_of f (Some g) = Some g

-- the last of these that has the byte at an address
abbrev pub last_at : (address : ℕ) → List Function → Option Function
last_at a [] = None
last_at a (f ∷ fs) = later_of (if covers_byte a f then Some f else None) (last_at a fs)

-- one function doesn't come before the other
abbrev pub IsUpTo : Function → Function → Type 0
IsUpTo f g = (f.begin < g.begin) ⊎ ((f.begin ≡ g.begin) × (f.later ≤ g.later))

abbrev pub Rises : List Function → Type 0
Rises [] = Unit {0}
Rises (f ∷ []) = Unit {0}
Rises (f ∷ (g ∷ gs)) = IsUpTo f g × Rises (g ∷ gs)

-- the function of the table that has so many after it
pub record IsOf (symbols : List Symbol) (f : Function) : Type 0 where
  pub within : f.later < length symbols
  pub begin : (d : Symbol)
      → (slice_index_or symbols (length symbols - 1 - f.later) d).value ≡ f.begin
  pub end : (d : Symbol)
      → (slice_index_or symbols (length symbols - 1 - f.later) d).value
      + (slice_index_or symbols (length symbols - 1 - f.later) d).size ≡ f.end

-- those of a table, in order
pub record AreInOrder (symbols : List Symbol) (sorted : List Function) : Type 0 where
  pub count : length sorted ≡ length symbols
  pub each : All (λ f. IsOf symbols f) sorted
  pub complete : (k : ℕ) → k < length symbols
      → (f : Function) × Contains sorted f × (f.later ≡ k)
  pub rises : Rises sorted

-- one has come to an address: from there on those that run, and those to come, are enough
pub record HasCome (symbols : List Symbol) (address : ℕ) (f : Functions) : Type 0 where
  pub order : AreInOrder symbols f.sorted.items
  pub within : f.begun ≤ length f.sorted.items
  pub enough : (a : ℕ) → address ≤ a
      → last_at a (f.running.items ++ drop f.begun f.sorted.items) ≡ last_at a f.sorted.items
  pub begun : All (λ g. g.begin ≤ address) f.running.items

-- those to come begin after it
pub record HasBegun (symbols : List Symbol) (address : ℕ) (f : Functions) : Type 0 where
  pub come : HasCome symbols address f
  pub ahead : All (λ g. address < g.begin) (drop f.begun f.sorted.items)

-- so many of those that run are enough from an address on, and the last of them ends after it
pub record AreEnough (address : ℕ) (running : List Function) (count : ℕ) : Type 0 where
  pub some : count ≤ length running
  pub same : (ahead : List Function) (a : ℕ) → address ≤ a
      → last_at a (take count running ++ ahead) ≡ last_at a (running ++ ahead)
  pub last : (d : Function) → 0 < count → address < (slice_index_or running (count - 1) d).end

-- and the last that runs ends after it
pub record HasEnded (symbols : List Symbol) (address : ℕ) (f : Functions) : Type 0 where
  pub begun : HasBegun symbols address f
  pub last : (d : Function) → 0 < length f.running.items
      → address < (slice_index_or f.running.items (length f.running.items - 1) d).end
