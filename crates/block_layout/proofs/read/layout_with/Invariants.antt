use Rattle.block_layout.proofs.TextLines.{AreTaken}
use Rattle.block_layout.proofs.read.layout_with.Given as goal

abbrev pub ghost-layout_of : goal.ghost-layout_of
ghost-layout_of a = record { shared = a.shared; named = a.named; nodes = a.nodes }

abbrev pub invariant-loop-place : goal.invariant-loop-place
invariant-loop-place l = AreTaken l.named l.ranges l.n l.taken l.place
