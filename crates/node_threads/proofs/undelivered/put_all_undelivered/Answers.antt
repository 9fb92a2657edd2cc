use Rattle.std.proofs.Common.{rules, arith, ◌≡◌, ◌<◌, ◌+◌, ◌++◌, ◌∙◌, ap, sym, suc, subst, ◌∷◌, [], length, ⊎_elim, ◌≤◌, add-zero}
use Rattle.std.proofs.lemmas.Bool.{cases_lt}
use Rattle.node_threads.specs.Works.{undelivered_from}
use Rattle.node_threads.specs.Crew.{RowsOf, UndeliveredFit, list_of, undelivered_at}
use Rattle.node_threads.proofs.Fronts.{undelivered_first, one_more, none_undelivered}
use Rattle.node_threads.proofs.undelivered.put_all_undelivered.Goals as goal

pub put_undelivered-requires : goal.put_undelivered-requires
put_undelivered-requires c =
    let some : 0 < length c.undelivered.undelivered.items = search rules in
    let f = undelivered_first (length c.args.lists.items) c.undelivered.undelivered.items c.remove-next.result _ some c.remove-next.ensures.value c.remove-next.ensures.items c.undelivered.invariant.fit in
    let s = c.undelivered.invariant.same in let m = c.undelivered.invariant.count in
    (omega arith, subst (λ n. RowsOf n c.undelivered.lists.items) (sym s) c.undelivered.invariant.rows, subst (λ n. UndeliveredFit n (c.remove-next.result ∷ [])) (sym s) f.0)

pub undelivered-preserved : goal.undelivered-preserved
undelivered-preserved c =
    let some : 0 < length c.undelivered.undelivered.items = search rules in
    let f = undelivered_first (length c.args.lists.items) c.undelivered.undelivered.items c.remove-next.result _ some c.remove-next.ensures.value c.remove-next.ensures.items c.undelivered.invariant.fit in
    let is : c.remove-next.result ≡ undelivered_at c.args.undelivered.items c.undelivered.k = f.2 ∙ c.undelivered.invariant.undelivered 0 ∙ ap (λ i. undelivered_at c.args.undelivered.items i) (add-zero c.undelivered.k) in
    let o = one_more c.args.undelivered.items c.args.lists.items c.undelivered.lists.items _ c.undelivered.k c.remove-next.result is c.undelivered.invariant.done c.undelivered.invariant.left c.in_ok-put_undelivered.ensures.here c.in_ok-put_undelivered.ensures.other in
    let q = c.in_ok-put_undelivered.ensures.rows in let len = f.4 in let m = c.undelivered.invariant.count in let s = c.undelivered.invariant.same in
    record {
      rows = rw s at q.1;
      same = q.0 ∙ s;
      fit = f.1;
      count = omega arith;
      undelivered = λ i. f.3 i ∙ c.undelivered.invariant.undelivered (suc i) ∙ ap (λ j. undelivered_at c.args.undelivered.items j) (omega arith);
      done = o.0;
      left = o.1;
    }

pub returns-clause-lists : goal.returns-clause-lists
returns-clause-lists c = λ a b.
    let none : length c.undelivered.undelivered.items ≡ 0 = search rules in
    ⊎_elim (λ (lt : b < c.undelivered.k). c.undelivered.invariant.done a b lt)
    (λ (le : c.undelivered.k ≤ b). c.undelivered.invariant.left a b le ∙ ap (λ h. undelivered_from a h ++ list_of c.args.lists.items a b) (sym (none_undelivered c.args.undelivered.items c.undelivered.undelivered.items c.undelivered.k none c.undelivered.invariant.undelivered b le)))
    (cases_lt b c.undelivered.k)
