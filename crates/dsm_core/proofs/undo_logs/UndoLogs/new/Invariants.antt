use Rattle.std.proofs.Common.{◌≡◌, length, vec_len, vec_capacity}
use Rattle.dsm_core.proofs.undo_logs.UndoLogs.new.Given as goal

abbrev pub invariant-loop-node : goal.invariant-loop-node
invariant-loop-node l = record {
  len : vec_len l.undo_logs ≡ l._node;
  items : length l.undo_logs.items ≡ l._node;
  capacity : vec_capacity l.undo_logs ≡ l.nodes;
}
