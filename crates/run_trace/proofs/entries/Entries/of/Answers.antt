-- One entry after another, from the last on.
use Rattle.std.proofs.Common.{◌≡◌, ◌+◌, ◌-◌, ◌∷◌, drop, sym, subst, ◌∙◌, arith}
use Rattle.std.proofs.lemmas.List.{drop_more}
use Rattle.std.proofs.lemmas.Option.{get_or_from_slice_get, slice_get_within}
use Rattle.run_trace.specs.Entries.{AreEntriesOf}
use Rattle.run_trace.proofs.entries.Entries.of.Goals as goal

pub loop-k-preserved : goal.loop-k-preserved
loop-k-preserved c =
    let plan = c.args.plan.now in
    let k = c.loop-k.k in
    let e = c.get.result in
    let at = c.get.ensures.value in
    let some = c.loop-k-test.true in
    let within = c.loop-k.invariant.within in
    let behind : k - 1 + 1 ≡ k = omega (arith, some) in
    record {
      are = subst (λ l. AreEntriesOf l c.put.new.self)
          (sym (drop_more plan (k - 1) e (slice_get_within plan (k - 1) e at)
          ∙ (λ j. get_or_from_slice_get plan (k - 1) e e at j ∷ drop (behind j) plan)))
          (c.in_ok-put.ensures (drop k plan) c.loop-k.invariant.are);
      within = omega (arith, within);
    }
