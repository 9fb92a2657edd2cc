use Rattle.std.proofs.Common.{rules, ◌≡◌, [], length, append-nil}
use Rattle.node_threads.proofs.MeshRows.{opens_none}
use Rattle.node_threads.proofs.mesh.open_row.Goals as goal

pub returns : goal.returns
returns c =
    let none : length c.rows.takes.items ≡ 0 = search rules in
    record { opens = simp append-nil at (c.rows.invariant [] [] (opens_none _ none)) }
