use Rattle.std.proofs.Common.{◌≡◌, ◌++◌, length, map}
use Rattle.node_threads.proofs.rows.add_row.Given as goal

abbrev pub invariant-loop-lists : goal.invariant-loop-lists
invariant-loop-lists l = map (λ q. q.wires) l.lists.items ++ map (λ o. o.items) l.row.items
    ≡ map (λ q. q.wires) l.fn.lists.items ++ map (λ o. o.items) l.fn.row.items

abbrev pub decreases-loop-lists : goal.decreases-loop-lists
decreases-loop-lists l = length l.row.items
