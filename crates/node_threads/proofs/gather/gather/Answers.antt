use Rattle.std.proofs.Common.{rules, ◌≡◌, [], length, append-nil, ◌<◌}
use Rattle.node_threads.proofs.Gathering.{rows_step, no_more, lists_snoc}
use Rattle.node_threads.proofs.gather.gather.Goals as goal

pub rows-preserved : goal.rows-preserved
rows-preserved g c =
    let some : 0 < length c.rows.sends.items = search rules in
    let step = rows_step c.rows.sends.items c.rows.outboxes.items c.rows.takes.items c.in_ok-list.rest.items c.remove-row.result _ c.remove-out.result _ c.in_ok-list.list some
    c.remove-row.ensures.value c.remove-row.ensures.items c.remove-out.ensures.value c.remove-out.ensures.items c.rows.invariant.links c.rows.invariant.outboxes c.in_ok-list.ensures.gathers in
    record {
      links = step.0;
      outboxes = step.1;
      then = λ ls h. rw (c.in_ok-push.ensures.items, lists_snoc) (c.rows.invariant.then _ (step.2 ls h));
    }

pub returns : goal.returns
returns g c =
    let none : length c.rows.sends.items ≡ 0 = search rules in
    record {
      gathers = simp append-nil at (c.rows.invariant.then []
          (no_more _ _ _ none c.rows.invariant.outboxes));
    }
