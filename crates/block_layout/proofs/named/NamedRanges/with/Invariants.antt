use Rattle.block_layout.proofs.Spans.{MapsUpTo}
use Rattle.block_layout.proofs.named.NamedRanges.with.Given as goal

abbrev pub invariant-loop-line : goal.invariant-loop-line
invariant-loop-line l = MapsUpTo l.range_at l.ranges.items l.range l.first l.line
