use Rattle.std.proofs.Common.{ℕ, ◌+◌, ◌<◌}
use Rattle.micro_op.specs.declared.micro_op.MicroOp.{MicroOp}
use Rattle.jump_map.specs.Strides.{StandsAt}
use Rattle.jump_map.proofs.sequences.stands.Given as goal

abbrev pub invariant-loop-i : goal.invariant-loop-i
invariant-loop-i l = (j : ℕ) (m : MicroOp) → j < l.i → StandsAt l.ops j m → StandsAt l.micros (l.k + j) m
