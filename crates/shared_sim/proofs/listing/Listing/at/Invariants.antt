use Rattle.std.proofs.Common.{◌≡◌, ◌-◌}
use Rattle.std.specs.Prelude.{slice_get}
use Rattle.dsm_core.specs.CoreParts.{work_of, core_of}
use Rattle.shared_sim.specs.ByOrder.{choices}
use Rattle.shared_sim.proofs.Rows.{allowed_from}
use Rattle.shared_sim.proofs.listing.Listing.at.Given as goal

abbrev pub invariant-loop-node : goal.invariant-loop-node
invariant-loop-node l =
    slice_get (allowed_from (work_of l.core) (core_of l.core) l.node (l.core.layout.nodes - l.node)) l.left
    ≡ slice_get (choices (work_of l.core) (core_of l.core)) l.place
