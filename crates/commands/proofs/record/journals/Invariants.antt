use Rattle.std.proofs.Common.{◌≡◌, map}
use Rattle.std.specs.List.{range_with_len}
use Rattle.dsm_core.specs.CoreParts.{core_of}
use Rattle.run_record.specs.Lists.{items_of}
use Rattle.commands.proofs.record.journals.Given as goal

abbrev pub invariant-loop-node : goal.invariant-loop-node
invariant-loop-node l =
    items_of l.journals.items
    ≡ map (λ i. ((core_of l.core).nodes i).journal) (range_with_len 0 l.node)
