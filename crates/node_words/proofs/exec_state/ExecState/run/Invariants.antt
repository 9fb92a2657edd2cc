use Rattle.std.proofs.Common.{◌≡◌, ◌-◌, ◌^◌, ◌<◌, ◌≤◌, length}
use Rattle.node_words.specs.GoingOn.{BodyGoesOn}
use Rattle.node_memory.specs.Shelf.{ground_of}
use Rattle.node_words.specs.UndoLogs.{StaysUndoable}
use Rattle.node_words.proofs.exec_state.ExecState.run.Given as goal

abbrev pub invariant-loop-going : goal.invariant-loop-going
invariant-loop-going l = record {
  words : BodyGoesOn l.image l.most l.from l.initial.self (l.budget - l.going.left) l.going.at l.self;
  left : l.going.left ≤ l.budget;
  low : l.going.at < 2 ^ 32;
  inside : l.going.at < length l.strides;
  ground : ground_of l.self.local ≡ ground_of l.initial.self.local;
  counts : l.self.counts ≡ l.initial.self.counts;
  undoable : StaysUndoable l.initial.self l.self;
}

abbrev pub decreases-loop-going : goal.decreases-loop-going
decreases-loop-going l = l.going.left
