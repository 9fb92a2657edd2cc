use Rattle.std.proofs.Common.{◌≡◌, None}
use Rattle.node_threads.specs.Works.{Works}
use Rattle.node_threads.proofs.worker.Worker.poll_links.Given as goal

abbrev pub invariant-loop-from : goal.invariant-loop-from
invariant-loop-from g l = record {
  undelivered : l.self.undelivered ≡ None;
  node : l.self.node ≡ l.fn.self.node;
  works : Works l.fn.self l.self;
}
