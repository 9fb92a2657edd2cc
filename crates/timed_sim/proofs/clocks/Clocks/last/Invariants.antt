use Rattle.std.proofs.Common.{◌≡◌}
use Rattle.timed_sim.specs.Clock.{last_clock}
use Rattle.timed_sim.specs.Stored.{times_of}
use Rattle.timed_sim.proofs.clocks.Clocks.last.Given as goal

abbrev pub invariant-loop-node : goal.invariant-loop-node
invariant-loop-node l = record {
  last : l.last ≡ last_clock l.node (times_of l.count l.self).spent;
}
