use Rattle.std.proofs.Common.{◌≡◌, ◌+◌, ◌*◌, ◌++◌, length, map}
use Rattle.node_threads.specs.Crew.{RowsOf, flat}
use Rattle.node_threads.proofs.rows.rows.Given as goal

abbrev pub invariant-loop : goal.invariant-loop
invariant-loop l = record {
  many : length l.rows.items ≡ l.counter;
  rest : length l.lists.items + l.counter * l.count ≡ l.count * l.count;
  rows : RowsOf l.count l.rows.items;
  wires : flat l.rows.items ++ map (λ q. q.wires) l.lists.items
      ≡ map (λ q. q.wires) l.fn.lists.items;
}
