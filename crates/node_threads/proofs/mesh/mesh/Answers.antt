use Rattle.std.proofs.Common.{arith, ◌≡◌, ◌+◌, ◌∙◌, length, length-append, ap}
use Rattle.node_threads.proofs.MeshRows.{fresh_snoc, unused_none, opens_step}
use Rattle.node_threads.proofs.mesh.mesh.Goals as goal

pub empty-preserved : goal.empty-preserved
empty-preserved c =
    let none : length c.new.result.items ≡ 0 = ap length c.new.ensures.items in
    record {
      takes = rw c.in_ok-push.ensures.items (fresh_snoc 0 _ c.new.result c.empty.invariant.takes none (unused_none _ none));
      many = rw c.in_ok-push.ensures.items (length-append _ _ ∙ ap (λ k. k + 1) c.empty.invariant.many);
    }

pub nodes-preserved : goal.nodes-preserved
nodes-preserved c =
    let s = opens_step c.args.n c.nodes.counter c.nodes.sends.items c.nodes.takes.items c.in_ok-ends.grown.items c.in_ok-ends.ends c.in_ok-ends.ensures.opens
    c.nodes.invariant.many c.nodes.invariant.sends c.nodes.invariant.takes c.nodes.invariant.cross in
    record {
      sends = rw c.in_ok-insert.ensures.items s.0;
      many = s.1;
      done = rw c.in_ok-insert.ensures.items (let d = c.nodes.invariant.done in omega arith);
      takes = s.2;
      cross = rw c.in_ok-insert.ensures.items s.3;
    }
