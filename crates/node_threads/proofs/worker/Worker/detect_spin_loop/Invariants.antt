use Rattle.std.proofs.Common.{◌≡◌, ◌<◌, ◌^◌, true, None}
use Rattle.dsm_core.specs.node_machine.NodeState.{node_of}
use Rattle.dsm_protocol.specs.node_model.Core.{may_execute}
use Rattle.node_threads.specs.Works.{Works, HasRows, standing}
use Rattle.node_threads.proofs.worker.Worker.detect_spin_loop.Given as goal

abbrev pub invariant-loop : goal.invariant-loop
invariant-loop g l = record {
  rows : HasRows l.self;
  undelivered : l.self.undelivered ≡ None;
  stamp : (node_of l.self.node).stamp < 2 ^ 56;
  may : may_execute (standing l.self.node) ≡ true;
  works : Works l.fn.self l.self;
}
