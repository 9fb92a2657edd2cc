use Rattle.lossy_sim.specs.Draws.{HasBrought}
use Rattle.lossy_sim.proofs.links.Link.network_turn.Given as goal

abbrev pub invariant-loop-k : goal.invariant-loop-k
invariant-loop-k l = record {
  brought : HasBrought l.fn.losses l.k l.fn.self l.losses l.self;
}
