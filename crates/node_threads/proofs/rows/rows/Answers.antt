use Rattle.std.proofs.Common.{arith, ◌≡◌, ◌+◌, ◌++◌, ap, ◌∙◌, sym, subst, length, length-append, map}
use Rattle.dsm_protocol.specs.Queue.{Queue}
use Rattle.node_threads.specs.Crew.{RowsOf, flat}
use Rattle.node_threads.proofs.Flat.{flat_snoc, rows_snoc}
use Rattle.node_threads.proofs.rows.rows.Goals as goal

pub loop-preserved : goal.loop-preserved
loop-preserved c =
    let i = c.loop.invariant in
    let t = c.in_ok-take_row in
    let p = c.in_ok-push.ensures.items in
    let old = i.rest in let less = t.ensures.rest in
    record {
      many = subst (λ l. length l ≡ c.loop.counter + 1) (sym p)
          (length-append _ _ ∙ ap (λ k. k + 1) i.many);
      rest = omega arith;
      rows = subst (RowsOf c.args.count) (sym p)
          (rows_snoc c.args.count c.loop.rows.items t.field-0 i.rows t.ensures.count);
      wires = subst (λ l. flat l ++ map (λ (q : Queue). q.wires) c.take_row.new.lists.items
          ≡ map (λ (q : Queue). q.wires) c.args.lists.items) (sym p)
          (flat_snoc c.loop.rows.items t.field-0 _
          ∙ ap (λ l. flat c.loop.rows.items ++ l) t.ensures.wires ∙ i.wires);
    }
