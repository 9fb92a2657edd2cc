use Rattle.std.proofs.Common.{◌≡◌, ◌+◌, ◌<◌, ◌≤◌, ◌++◌, ℕ, length}
use Rattle.node_threads.specs.Works.{undelivered_from}
use Rattle.node_threads.specs.Crew.{RowsOf, UndeliveredFit, list_of, undelivered_at}
use Rattle.node_threads.proofs.undelivered.put_all_undelivered.Given as goal

abbrev pub invariant-undelivered : goal.invariant-undelivered
invariant-undelivered l = record {
  rows : RowsOf (length l.fn.lists.items) l.lists.items;
  same : length l.lists.items ≡ length l.fn.lists.items;
  fit : UndeliveredFit (length l.fn.lists.items) l.undelivered.items;
  count : l.k + length l.undelivered.items ≤ length l.fn.lists.items;
  undelivered : (i : ℕ) → undelivered_at l.undelivered.items i ≡ undelivered_at l.fn.undelivered.items (l.k + i);
  done : (a b : ℕ) → b < l.k → list_of l.lists.items a b ≡ undelivered_from a (undelivered_at l.fn.undelivered.items b) ++ list_of l.fn.lists.items a b;
  left : (a b : ℕ) → l.k ≤ b → list_of l.lists.items a b ≡ list_of l.fn.lists.items a b;
}

abbrev pub decreases-undelivered : goal.decreases-undelivered
decreases-undelivered l = length l.undelivered.items
