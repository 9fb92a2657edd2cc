use Rattle.std.proofs.Common.{sym}
use Rattle.flow_graph.proofs.WordLemmas.{low_at}
use Rattle.flow_graph.proofs.graph.Graph.next.Goals as goal

pub next_of-requires : goal.next_of-requires
next_of-requires c = record { low = low_at 0 c.self.inside.code c.args.i c.in-Some.instruction c.self.invariant (sym c.in-Some.ensures.value) }
