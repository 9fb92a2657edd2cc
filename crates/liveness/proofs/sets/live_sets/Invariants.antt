use Rattle.std.proofs.Common.{◌≡◌, ◌*◌, ◌+◌, length}
use Rattle.liveness.proofs.SetLemmas.{IsSound, IsClosed}
use Rattle.liveness.proofs.MarksLemmas.{lacking, waiting}
use Rattle.liveness.proofs.sets.live_sets.Given as goal

abbrev pub invariant-loop-i : goal.invariant-loop-i
invariant-loop-i l = record {
  sets : length l.sets.items ≡ length l.nodes;
  flags : length l.work.queued.items ≡ length l.nodes;
  sound : IsSound l.nodes l.sets.items;
  closed : IsClosed l.nodes l.work.queued.items l.sets.items;
}

abbrev pub decreases-loop-i : goal.decreases-loop-i
decreases-loop-i l = lacking l.sets.items * (length l.nodes + 1) + waiting l.work.queued.items
