use Rattle.std.proofs.Common.{◌≡◌, ◌≤◌, map, length}
use Rattle.std.specs.Vec.{vec_capacity}
use Rattle.std.specs.List.{range_with_len}
use Rattle.timed_sim.specs.Clock.{idle_until}
use Rattle.timed_sim.specs.Stored.{times_of}
use Rattle.timed_sim.proofs.clocks.Clocks.until.Given as goal

abbrev pub invariant-loop-node : goal.invariant-loop-node
invariant-loop-node l = record {
  all : l.all.items
      ≡ map (λ i. idle_until l.last ((times_of l.count l.self).spent i)) (range_with_len 0 l.node);
  many : length l.all.items ≡ l.node;
  room : l.count ≤ vec_capacity l.all;
}
