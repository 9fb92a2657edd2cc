use Rattle.lossy_sim.specs.Stored.{AreLinks}
use Rattle.lossy_sim.proofs.Turned.{HaveTurnedTo}
use Rattle.lossy_sim.proofs.nodes.network_turn.Given as goal

abbrev pub invariant-loop-place : goal.invariant-loop-place
invariant-loop-place l = record {
  links : AreLinks l.links.items l.count;
  turned : HaveTurnedTo l.place l.fn.links.items l.links.items l.fn.losses l.losses;
}
