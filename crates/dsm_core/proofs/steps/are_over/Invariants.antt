use Rattle.std.proofs.Common.{◌≡◌, ℕ, ◌<◌, List}
use Rattle.run_order.specs.node_model.declared.Standing.TheVariants.{Over}
use Rattle.run_order.specs.node_model.Node.{Work, standing_of}
use Rattle.rewriting_law.specs.dsm_protocol.Queue.{Queue}
use Rattle.dsm_core.specs.CoreParts.{core_with, HaveWork}
use Rattle.dsm_core.proofs.steps.are_over.Given as goal

abbrev pub invariant-loop-node : goal.invariant-loop-node
invariant-loop-node l = record {
  over : (work : Work) (lists : List Queue) → HaveWork work l.nodes → (i : ℕ) → i < l.node
      → standing_of work ((core_with work l.nodes lists).nodes i) ≡ Over;
}
