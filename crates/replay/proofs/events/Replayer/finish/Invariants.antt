-- The nodes below are over.
use Rattle.std.proofs.Common.{◌≡◌, ℕ, ◌<◌}
use Rattle.run_order.specs.node_model.declared.Standing.TheVariants.{Over}
use Rattle.run_order.specs.node_model.Node.{standing_of}
use Rattle.dsm_core.specs.CoreParts.{work_of, core_of}
use Rattle.replay.proofs.events.Replayer.finish.Given as goal

abbrev pub invariant-loop-node : goal.invariant-loop-node
invariant-loop-node l = (i : ℕ) → i < l.node
    → standing_of (work_of l.self.core) ((core_of l.self.core).nodes i) ≡ Over
