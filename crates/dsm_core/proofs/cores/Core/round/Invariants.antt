use Rattle.std.proofs.Common.{◌≡◌, ℕ, ◌<◌, false}
use Rattle.dsm_core.specs.CoreParts.{work_of, core_of}
use Rattle.dsm_core.specs.CoreSteps.{HasGone, IsStill, one_if}
use Rattle.dsm_core.proofs.cores.Core.round.Given as goal

abbrev pub invariant-loop-node : goal.invariant-loop-node
invariant-loop-node l = record {
  gone : HasGone (work_of l.initial.self) (one_if l.moved) (core_of l.initial.self) (core_of l.self);
  work : work_of l.self ≡ work_of l.initial.self;
  still : l.moved ≡ false → (i : ℕ) → i < l.node → IsStill (work_of l.initial.self) i (core_of l.self);
}
