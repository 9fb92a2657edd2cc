use Rattle.std.proofs.Common.{◌≡◌, ◌++◌, length, map}
use Rattle.node_threads.proofs.crew.take_workers_apart.Given as goal

abbrev pub invariant-workers : goal.invariant-workers
invariant-workers l = record {
  nodes : l.nodes.items ++ map (λ w. w.node) l.workers.items ≡ map (λ w. w.node) l.fn.workers.items;
  sends : l.sends.items ++ map (λ w. w.sends) l.workers.items ≡ map (λ w. w.sends) l.fn.workers.items;
  takes : l.takes.items ++ map (λ w. w.takes) l.workers.items ≡ map (λ w. w.takes) l.fn.workers.items;
  outboxes : l.outboxes.items ++ map (λ w. w.outboxes) l.workers.items ≡ map (λ w. w.outboxes) l.fn.workers.items;
  undelivered : l.undelivered.items ++ map (λ w. w.undelivered) l.workers.items ≡ map (λ w. w.undelivered) l.fn.workers.items;
}

abbrev pub decreases-workers : goal.decreases-workers
decreases-workers l = length l.workers.items
