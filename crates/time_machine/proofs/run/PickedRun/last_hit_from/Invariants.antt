use Rattle.std.proofs.Common.{◌≡◌}
use Rattle.one_memory.specs.Machine.{original_of, state_of}
use Rattle.time_machine.specs.Stand.{original_in, state_at}
use Rattle.time_machine.specs.Hits.{IsLatest}
use Rattle.time_machine.proofs.run.PickedRun.last_hit_from.Given as goal

abbrev pub invariant-loop-k : goal.invariant-loop-k
invariant-loop-k l = record {
  original : original_of l.machine ≡ original_in l.self;
  state : state_of l.machine ≡ state_at l.self l.k;
  latest : IsLatest l.self l.stops l.start l.k l.latest;
}
