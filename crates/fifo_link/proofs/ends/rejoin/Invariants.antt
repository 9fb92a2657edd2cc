use Rattle.std.proofs.Common.{◌≡◌, ◌++◌, true}
use Rattle.crossbeam_queue.specs.Passes.{view, IsPassOf}
use Rattle.fifo_link.proofs.ends.rejoin.Given as goal

abbrev pub invariant-loop : goal.invariant-loop
invariant-loop g l = IsPassOf l.ring.value l.pass
    × ((view l.pass).sends ≡ true) × ((view l.pass).takes ≡ true)
    × ((view l.pass).sent ≡ l.fn.sender.wires)
    × ((view l.pass).taken ≡ l.fn.taker.wires ++ l.left.items)
