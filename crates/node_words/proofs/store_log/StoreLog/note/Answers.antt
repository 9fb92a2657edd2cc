use Rattle.std.proofs.Common.{sym}
use Rattle.node_words.proofs.store_log.StoreLog.note.Goals as goal

pub returns-clause-noted : goal.returns-clause-noted
returns-clause-noted c _ at = record {
  value = c.old_bytes-value.result;
  note = c.push_reserved.ensures.items;
  aligned = sym c.if-not-is_aligned.ensures.value;
  bytes = c.old_bytes-value.ensures at;
}
