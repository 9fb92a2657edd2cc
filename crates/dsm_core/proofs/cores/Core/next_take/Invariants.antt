use Rattle.std.proofs.Common.{ℕ, ◌<◌}
use Rattle.run_order.specs.node_model.Core.{Take, May}
use Rattle.dsm_core.specs.CoreParts.{work_of, core_of}
use Rattle.dsm_core.proofs.cores.Core.next_take.Given as goal

abbrev pub invariant-loop-from : goal.invariant-loop-from
invariant-loop-from l = record {
  none : (j : ℕ) → j < l.from → May (work_of l.self) (core_of l.self) (Take l.node j) → ⊥;
}
