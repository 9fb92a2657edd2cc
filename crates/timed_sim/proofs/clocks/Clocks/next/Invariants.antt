use Rattle.std.proofs.Common.{◌≡◌}
use Rattle.std.specs.Option.{option_map}
use Rattle.dsm_core.specs.CoreParts.{work_of, core_of}
use Rattle.timed_sim.specs.Clock.{earliest, next_of}
use Rattle.timed_sim.specs.Stored.{due_of, times_of}
use Rattle.timed_sim.proofs.clocks.Clocks.next.Given as goal

abbrev pub invariant-loop-node : goal.invariant-loop-node
invariant-loop-node l = record {
  first : option_map due_of l.first ≡ earliest
      (next_of (work_of l.core) (times_of l.core.layout.nodes l.self) (core_of l.core)) l.node;
}
