use Rattle.std.proofs.Common.{◌≡◌, ◌<◌, ◌≤◌, ℕ, None}
use Rattle.time_machine.specs.Stops.{hit_at}
use Rattle.time_machine.proofs.run.PickedRun.last_hit.Given as goal

abbrev pub invariant-loop-end : goal.invariant-loop-end
invariant-loop-end l = record {
  within : l.end ≤ l.before;
  none : (k : ℕ) → l.end ≤ k → k < l.before → hit_at l.self l.stops k ≡ None;
}

abbrev pub decreases-loop-end : goal.decreases-loop-end
decreases-loop-end l = l.end
