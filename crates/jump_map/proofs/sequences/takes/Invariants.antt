use Rattle.std.proofs.Common.{◌≡◌, ℕ, ◌+◌, ◌-◌, ◌<◌, length, Some}
use Rattle.std.specs.Prelude.{slice_get}
use Rattle.jump_map.specs.Strides.{StandsAt, take_back}
use Rattle.jump_map.proofs.sequences.takes.Given as goal

abbrev pub invariant-loop-i : goal.invariant-loop-i
invariant-loop-i l =
    (j r : ℕ) → j < l.i → slice_get l.registers (length l.registers - l.spilled + j) ≡ Some r
    → StandsAt l.micros (l.k + j) (take_back r (length l.registers - l.spilled + j))
