use Rattle.std.proofs.Common.{◌≡◌, ◌++◌, List, length, map}
use Rattle.node_threads.specs.Crew.{AllIdle}
use Rattle.node_threads.specs.declared.worker.Worker.{Worker}
use Rattle.node_threads.proofs.crew.make_workers.Given as goal

abbrev pub invariant-nodes : goal.invariant-nodes
invariant-nodes l = record {
  same : (length l.sends.items ≡ length l.nodes.items) × (length l.takes.items ≡ length l.nodes.items) × (length l.outboxes.items ≡ length l.nodes.items);
  idle : (ws : List Worker) → AllIdle ws → AllIdle (l.workers.items ++ ws);
  nodes : map (λ w. w.node) l.workers.items ++ l.nodes.items ≡ l.fn.nodes.items;
  sends : map (λ w. w.sends) l.workers.items ++ l.sends.items ≡ l.fn.sends.items;
  takes : map (λ w. w.takes) l.workers.items ++ l.takes.items ≡ l.fn.takes.items;
  outboxes : map (λ w. w.outboxes) l.workers.items ++ l.outboxes.items ≡ l.fn.outboxes.items;
}

abbrev pub decreases-nodes : goal.decreases-nodes
decreases-nodes l = length l.nodes.items
