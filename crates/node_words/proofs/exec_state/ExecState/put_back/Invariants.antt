use Rattle.std.proofs.Common.{◌≡◌, All}
use Rattle.node_memory.specs.exec_map.Contents.{program_of}
use Rattle.node_memory.specs.Shelf.{ground_of}
use Rattle.node_words.specs.UndoLogs.{IsAlignedNote, held_of, taken_back}
use Rattle.node_words.proofs.UndoLogLemmas.{Unchanged}
use Rattle.node_words.proofs.exec_state.ExecState.put_back.Given as goal

abbrev pub invariant-loop-note : goal.invariant-loop-note
invariant-loop-note l = record {
  aligned : All IsAlignedNote l.notes.items;
  held : taken_back (program_of l.initial.self.local.program) l.notes.items (held_of l.self.lane l.self.local)
      ≡ taken_back (program_of l.initial.self.local.program) l.initial.notes.items (held_of l.initial.self.lane l.initial.self.local);
  same : Unchanged l.initial.self.lane l.initial.self.local l.self.lane l.self.local;
  ground : ground_of l.self.local ≡ ground_of l.initial.self.local;
  counts : l.self.counts ≡ l.initial.self.counts;
}

abbrev pub decreases-loop-note : goal.decreases-loop-note
decreases-loop-note l = goal.left-loop-note l
