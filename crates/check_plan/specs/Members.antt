-- Sets of registers as lists of their members.
use Rattle.std.specs.Prelude.{◌≡◌, ℕ, ◌+◌, List, ◌++◌, length, map, filter}
use Rattle.std.specs.List.{range_with_len}
use Rattle.rv32_decode.specs.Fields.{bit}
use Rattle.templates.specs.declared.plans.Scratch.{Scratch}
use Rattle.templates.specs.WholePlan.{unspilled, spilled}

-- the members of a set but x0, ascending
unfoldable pub members : ℕ → List ℕ
members set = filter (bit set) (range_with_len 1 31)

-- the set has so few members that so many are still to be passed over of k
abbrev pub IsPassed : ℕ → ℕ → ℕ → Type 0
IsPassed set k left = length (members set) + left ≡ k

-- the members of one set, and then those of another, as scratch registers
abbrev pub both : ℕ → ℕ → List Scratch
both dead others = map unspilled (members dead) ++ map spilled (members others)
