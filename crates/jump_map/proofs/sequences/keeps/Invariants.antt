use Rattle.std.proofs.Common.{◌≡◌, ℕ, ◌+◌, ◌-◌, ◌<◌, length, Some}
use Rattle.std.specs.Prelude.{slice_get}
use Rattle.jump_map.specs.Strides.{StandsAt, keep}
use Rattle.jump_map.proofs.sequences.keeps.Given as goal

abbrev pub invariant-loop-i : goal.invariant-loop-i
invariant-loop-i l =
    (j r : ℕ) → j < l.i → slice_get l.registers (length l.registers - l.spilled + j) ≡ Some r
    → StandsAt l.micros (l.k + j) (keep r (length l.registers - l.spilled + j))
