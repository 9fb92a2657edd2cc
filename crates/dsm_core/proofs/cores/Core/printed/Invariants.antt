use Rattle.std.proofs.Common.{◌≡◌}
use Rattle.dsm_core.specs.CoreParts.{core_of}
use Rattle.dsm_core.specs.Printing.{printed_below}
use Rattle.dsm_core.proofs.cores.Core.printed.Given as goal

abbrev pub invariant-loop-node : goal.invariant-loop-node
invariant-loop-node l = record {
  items : l.printed.items ≡ printed_below (core_of l.self).nodes l.node;
}
