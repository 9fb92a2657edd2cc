use Rattle.std.proofs.Common.{◌≡◌, ℕ, length, Some}
use Rattle.std.specs.Prelude.{slice_get}
use Rattle.jump_map.specs.declared.strides.StrideKind.{StrideKind}
use Rattle.jump_map.specs.Strides.{IsStride}
use Rattle.jump_map.proofs.sequences.find_strides.Given as goal

abbrev pub invariant-loop-k : goal.invariant-loop-k
invariant-loop-k l = record {
  count : length l.strides.items ≡ l.k;
  each : (j : ℕ) (is : StrideKind) → slice_get l.strides.items j ≡ Some is → IsStride l.micros j is;
}
