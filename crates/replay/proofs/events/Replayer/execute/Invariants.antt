-- So many words were executed.
use Rattle.std.proofs.Common.{◌≡◌, ◌↔◌, ◌-◌, ◌≤◌, true}
use Rattle.run_order.specs.node_model.Core.{Exec, May}
use Rattle.dsm_core.specs.CoreParts.{work_of, core_of}
use Rattle.replay.specs.Way.{IsRunning, IsSame, HasFollowed}
use Rattle.replay.proofs.Cursors.{words_after}
use Rattle.replay.proofs.events.Replayer.execute.Given as goal

abbrev pub invariant-loop-made : goal.invariant-loop-made
invariant-loop-made l = record {
  running : IsRunning l.self;
  same : IsSame l.initial.self l.self;
  followed : HasFollowed l.initial.self.cursors l.node
      (words_after l.initial.self.cursors l.node l.made) l.self.cursors;
  most : l.made ≤ l.words;
  may : (l.may ≡ true) ↔ May (work_of l.self.core) (core_of l.self.core) (Exec l.node);
}

abbrev pub decreases-loop-made : goal.decreases-loop-made
decreases-loop-made l = l.words - l.made
