use Rattle.std.proofs.Common.{◌≡◌, ◌++◌, List, length}
use Rattle.dsm_messages.specs.declared.messages.Wire.{Wire}
use Rattle.node_threads.proofs.worker.flush.Given as goal

abbrev pub invariant-loop-wire : goal.invariant-loop-wire
invariant-loop-wire g l = record {
  link : l.end.link ≡ l.fn.end.link;
  capacity : l.end.capacity ≡ l.fn.end.capacity;
  wires : (pushed : List Wire) × (l.end.wires ≡ l.fn.end.wires ++ pushed)
      × (l.fn.out.items ≡ pushed ++ l.out.items);
}

abbrev pub decreases-loop-wire : goal.decreases-loop-wire
decreases-loop-wire g l = length l.out.items
