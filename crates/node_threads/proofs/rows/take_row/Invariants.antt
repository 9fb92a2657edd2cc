use Rattle.std.proofs.Common.{◌≡◌, ◌+◌, ◌++◌, length, map}
use Rattle.node_threads.proofs.rows.take_row.Given as goal

abbrev pub invariant-loop : goal.invariant-loop
invariant-loop l = record {
  count : length l.row.items ≡ l.counter;
  rest : length l.lists.items + l.counter ≡ length l.fn.lists.items;
  wires : map (λ o. o.items) l.row.items ++ map (λ q. q.wires) l.lists.items
      ≡ map (λ q. q.wires) l.fn.lists.items;
}
