use Rattle.arrayvec.specs.ArrayVec.{array_vec_len}
use Rattle.timed_sim.proofs.Arrivals.{HaveSentTo}
use Rattle.timed_sim.proofs.links.send.Given as goal

abbrev pub invariant-loop-sends : goal.invariant-loop-sends
invariant-loop-sends l = record {
  sent : HaveSentTo l.costs l.layout l.node l.time l.fn.links.items l.links.items l.fn.sends.items
      l.sends.items;
}

abbrev pub decreases-loop-sends : goal.decreases-loop-sends
decreases-loop-sends l = array_vec_len l.sends
