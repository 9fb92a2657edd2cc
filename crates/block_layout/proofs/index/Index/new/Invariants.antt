use Rattle.block_layout.specs.Index.{IsIndexBelow}
use Rattle.block_layout.proofs.Building.{end_of}
use Rattle.block_layout.proofs.index.Index.new.Given as goal

abbrev pub ghost-add_lines : goal.ghost-add_lines
ghost-add_lines g a = g.s

abbrev pub invariant-loop-range : goal.invariant-loop-range
invariant-loop-range g l = IsIndexBelow g.s (end_of g.s.shared l.range-index) l.index
