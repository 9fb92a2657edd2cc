use Rattle.std.proofs.Common.{◌≡◌, None, length}
use Rattle.node_threads.specs.Works.{Works}
use Rattle.node_threads.proofs.worker.Worker.flush_all.Given as goal

abbrev pub invariant-loop-k : goal.invariant-loop-k
invariant-loop-k g l = record {
  undelivered : l.self.undelivered ≡ None;
  lists : length l.self.outboxes.items ≡ length l.self.sends.items;
  same : length l.self.sends.items ≡ length l.fn.self.sends.items;
  node : l.self.node ≡ l.fn.self.node;
  works : Works l.fn.self l.self;
}
