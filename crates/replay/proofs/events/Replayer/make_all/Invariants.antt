-- The run goes on, with fewer events left.
use Rattle.replay.specs.Way.{IsRunning, IsSame, all_left}
use Rattle.replay.proofs.events.Replayer.make_all.Given as goal

abbrev pub invariant-loop-first : goal.invariant-loop-first
invariant-loop-first l = record {
  running : IsRunning l.self;
  same : IsSame l.initial.self l.self;
}

abbrev pub decreases-loop-first : goal.decreases-loop-first
decreases-loop-first l = all_left l.self.cursors
