use Rattle.block_layout.specs.Index.{IsIndexBelow}
use Rattle.block_layout.proofs.index.add_lines.Given as goal

abbrev pub ghost-add_line : goal.ghost-add_line
ghost-add_line g a = g.s

abbrev pub invariant-loop-line : goal.invariant-loop-line
invariant-loop-line g l = IsIndexBelow g.s l.line l.index
