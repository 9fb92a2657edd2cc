use Rattle.std.proofs.Common.{◌≡◌, ℕ, ◌<◌}
use Rattle.node_model.specs.declared.Standing.TheVariants.{Over}
use Rattle.node_model.specs.Node.{Work, opening_node, standing_of}
use Rattle.dsm_core.specs.CoreParts.{HaveWork}
use Rattle.dsm_core.specs.CoreSteps.{node_or}
use Rattle.lossy_sim.proofs.listing.are_over.Given as goal

abbrev pub invariant-loop-node : goal.invariant-loop-node
invariant-loop-node l = record {
  over : (work : Work) → HaveWork work l.nodes → (i : ℕ) → i < l.node
      → standing_of work (node_or l.nodes i (opening_node work i)) ≡ Over;
}
