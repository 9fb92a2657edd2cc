use Rattle.std.proofs.Common.{◌≡◌, ◌++◌, length, map}
use Rattle.node_threads.specs.Crew.{flat}
use Rattle.node_threads.proofs.rows.lists.Given as goal

abbrev pub invariant-loop-rows : goal.invariant-loop-rows
invariant-loop-rows l = map (λ q. q.wires) l.lists.items ++ flat l.rows.items ≡ flat l.fn.rows.items

abbrev pub decreases-loop-rows : goal.decreases-loop-rows
decreases-loop-rows l = length l.rows.items
