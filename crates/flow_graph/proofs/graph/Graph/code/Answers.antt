use Rattle.std.proofs.Common.{◌≤◌, ◌^◌, length, subst}
use Rattle.flow_graph.proofs.WordLemmas.{few}
use Rattle.flow_graph.proofs.graph.Graph.code.Goals as goal

pub returns-clause-few : goal.returns-clause-few
returns-clause-few c = subst (λ ws. length ws ≤ 2 ^ 30) c.self.view_is (few c.self.inside.code c.self.invariant)
