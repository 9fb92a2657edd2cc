use Rattle.exec_map.proofs.Merging.{IsMerging}
use Rattle.exec_map.proofs.stretches.merged.Given as goal

abbrev pub invariant-loop-r : goal.invariant-loop-r
invariant-loop-r l = IsMerging l.initial.last l.rest l.merged.items l.last l.r-index
