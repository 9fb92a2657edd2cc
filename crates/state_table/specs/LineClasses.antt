-- The state bytes of lines that no protocol changes: those of the read-only and the private ones.
use Rattle.std.specs.Prelude.{ℕ, ◌+◌, ◌^◌, ◌≤◌, Bool, ◌&&◌, nat_lt, nat_le, if◌then◌else◌, List, [], ◌∷◌, All, AllPairs}
use Rattle.state_table.specs.declared.TheConstants.{UNMAPPED}
use Rattle.state_table.specs.declared.classes.LineClass.{LineClass}

-- the class has the line
abbrev pub has : LineClass → ℕ → Bool
has c line = nat_le c.first line && nat_lt line (c.first + c.lines)

-- lines below 2^26, ascending, without overlap
pub record AreClasses (cs : List LineClass) : Type 0 where
  pub low : All (λ c. c.first + c.lines ≤ 2 ^ 26) cs
  pub ascending : AllPairs (λ c d. c.first + c.lines ≤ d.first) cs

-- the byte of a line by a search of the list; a line in no class isn't mapped
abbrev pub class_byte : List LineClass → ℕ → ℕ
class_byte [] line = UNMAPPED
class_byte (c ∷ cs) line = if has c line then c.byte else class_byte cs line
