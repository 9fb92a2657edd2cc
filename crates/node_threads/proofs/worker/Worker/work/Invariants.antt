use Rattle.node_threads.specs.Works.{Works}
use Rattle.node_threads.proofs.worker.Worker.work.Given as goal

abbrev pub invariant-loop : goal.invariant-loop
invariant-loop g l = record { works : Works l.fn.self l.worker }
