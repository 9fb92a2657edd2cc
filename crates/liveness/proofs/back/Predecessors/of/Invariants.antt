use Rattle.std.proofs.Common.{◌≡◌, ◌*◌, length}
use Rattle.liveness.specs.Leads.{Leads}
use Rattle.liveness.proofs.back.Predecessors.of.Given as goal

abbrev pub invariant-loop-node : goal.invariant-loop-node
invariant-loop-node l = record {
  heads : length l.back.heads.items ≡ length l.nodes;
  links : length l.back.links.items ≡ 2 * l.node-index;
  each : Leads l.nodes l.node-index l.back.heads.items l.back.links.items;
}
