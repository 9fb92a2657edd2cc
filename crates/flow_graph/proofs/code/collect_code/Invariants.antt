use Rattle.std.proofs.Common.{◌-◌}
use Rattle.flow_graph.proofs.CodeLemmas.{IsCollected}
use Rattle.flow_graph.proofs.code.collect_code.Given as goal

abbrev pub invariant-loop-address : goal.invariant-loop-address
invariant-loop-address l = IsCollected l.program l.code l.from

abbrev pub decreases-loop-address : goal.decreases-loop-address
decreases-loop-address l = 0x80000000 - l.from
