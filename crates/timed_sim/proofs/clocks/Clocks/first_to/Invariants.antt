use Rattle.std.proofs.Common.{◌≡◌}
use Rattle.std.specs.Option.{option_map}
use Rattle.timed_sim.specs.Clock.{earliest, first_from}
use Rattle.timed_sim.specs.Stored.{due_of, times_of}
use Rattle.timed_sim.proofs.clocks.Clocks.first_to.Given as goal

abbrev pub invariant-loop-from : goal.invariant-loop-from
invariant-loop-from l = record {
  first : option_map due_of l.first
      ≡ earliest (λ j. first_from j l.node ((times_of l.count l.self).arrivals j l.node)) l.from;
}
