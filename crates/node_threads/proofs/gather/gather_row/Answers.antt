use Rattle.std.proofs.Common.{rules, ◌≡◌, [], length, append-nil}
use Rattle.node_threads.proofs.Gathering.{nothing_left}
use Rattle.node_threads.proofs.gather.gather_row.Goals as goal

pub returns : goal.returns
returns g c =
    let none : length c.ends.sends.items ≡ 0 = search rules in
    record {
      gathers = simp append-nil at (c.ends.invariant.then [] []
          (nothing_left _ _ _ none c.ends.invariant.outboxes c.ends.invariant.links));
    }
