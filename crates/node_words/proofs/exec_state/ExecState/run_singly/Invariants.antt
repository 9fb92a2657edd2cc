use Rattle.std.proofs.Common.{◌≡◌, ℕ, ◌+◌, ◌-◌, ◌≤◌}
use Rattle.node_words.specs.GoingOn.{GoesFurther}
use Rattle.node_words.specs.UndoLogs.{StaysUndoable}
use Rattle.node_words.proofs.exec_state.ExecState.run_singly.Given as goal

abbrev pub invariant-loop-words : goal.invariant-loop-words
invariant-loop-words l = record {
  goes : (w : ℕ) → GoesFurther l.image l.initial.self l.from w l.self l.at (w + l.words);
  most : l.words ≤ l.most;
  counts : l.self.counts ≡ l.initial.self.counts;
  undoable : StaysUndoable l.initial.self l.self;
}

abbrev pub decreases-loop-words : goal.decreases-loop-words
decreases-loop-words l = l.most - l.words
