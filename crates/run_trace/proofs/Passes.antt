-- Words that are passed, one after another.
use Rattle.std.proofs.Common.{◌≡◌, ℕ, zero, suc, ◌+◌, ◌<◌, List, [], ◌∷◌, ◌++◌, length, Option, None, refl, sym, ap, ap₂, ◌∙◌, subst, append_assoc, append-nil, arith}
use Rattle.std.specs.Prelude.{All, option_to_list}
use Rattle.std.specs.Option.{option_map}
use Rattle.std.proofs.lemmas.List.{append_cancel_left}
use Rattle.std.proofs.lemmas.List.Elements.{All-nil, All-cons, All-append}
use Rattle.replay.specs.run_order.Sorted.{made_by}
use Rattle.replay.specs.run_record.declared.Record.{Record}
use Rattle.replay.specs.declared.cursor.Cursors.{Cursors}
use Rattle.replay.specs.declared.events.Replayer.{Replayer}
use Rattle.replay.specs.Told.{Told, AreToldBy, stamp_told, maker_told}
use Rattle.replay.specs.Way.{HasMade, IsSame as IsSameRun, left_at, count_left, events_left}
use Rattle.replay.proofs.Whole.{one_told}
use Rattle.run_trace.specs.declared.passed.Until.{Until}
use Rattle.run_trace.specs.declared.passed.WordPassed.{WordPassed}
use Rattle.run_trace.specs.declared.tracer.Tracer.{Tracer}
use Rattle.run_trace.specs.Traced.{Traced}
use Rattle.run_trace.specs.Tracing.{HasTraced, IsSame}
use Rattle.run_trace.specs.Passing.{IsPassed, HasPassedOn, passed_of}

-- 1. Runs that have made the same have the same left

counts_same : (v w : Cursors) (m : ℕ) → ((i : ℕ) → i < m → left_at w i ≡ left_at v i) → count_left w m ≡ count_left v m
counts_same v w zero same = refl
counts_same v w (suc m) same =
    ap₂ (λ k l. k + length l) (counts_same v w m (λ i lt. same i (omega (arith, lt)))) (same m (omega arith))

pub left_same : (a b : Replayer) (before : List Told) → HasMade a before → HasMade b before → IsSameRun a b
    → events_left b ≡ events_left a
left_same a b before ha hb same =
    let r = a.cursors.rec.now in
    let told : AreToldBy r (before ++ hb.way.rest) =
    subst (λ (x : Record). AreToldBy x (before ++ hb.way.rest)) same.rec_is hb.way.are_told in
    let rest : hb.way.rest ≡ ha.way.rest =
    append_cancel_left before hb.way.rest ha.way.rest
    (one_told r (before ++ hb.way.rest) (before ++ ha.way.rest) told ha.way.are_told) in
    let nodes : b.cursors.rec.now.nodes ≡ r.nodes = ap (λ (x : Record). x.nodes) same.rec_is in
    ap (count_left b.cursors) nodes ∙ counts_same a.cursors b.cursors r.nodes (λ i lt.
    sym (hb.way.each i (subst (λ k. i < k) (sym (hb.nodes ∙ nodes)) lt))
    ∙ ap (made_by stamp_told maker_told i) rest
    ∙ ha.way.each i (subst (λ k. i < k) (sym ha.nodes) lt))

-- 2. Words, one after another

-- words were passed, and no more was made
pub record IsOn (u : Until) (t : Tracer) (seen : List Traced) : Type 0 where
  pub more : List Traced
  pub passed : All (IsPassed u) more
  pub traced : HasTraced t (seen ++ more)

pub sets_out : (u : Until) (t : Tracer) (seen : List Traced) → HasTraced t seen → IsOn u t seen
sets_out u t seen h = record {
  more = [];
  passed = All-nil (IsPassed u);
  traced = subst (HasTraced t) (sym (append-nil seen)) h;
}

-- one more was passed
pub goes_by : (u : Until) (t s : Tracer) (seen : List Traced) (x : Traced) → IsOn u t seen → IsPassed u x
    → ((l : List Traced) → HasTraced t l → HasTraced s (l ++ x ∷ [])) → IsOn u s seen
goes_by u t s seen x on passed then = record {
  more = on.more ++ x ∷ [];
  passed = All-append (IsPassed u) on.more (x ∷ []) on.passed
      (All-cons (IsPassed u) x [] passed (All-nil (IsPassed u)));
  traced = subst (HasTraced s) (append_assoc seen on.more (x ∷ [])) (then (seen ++ on.more) on.traced);
}

-- and one that ends the pass, or none
pub ends_by : (u : Until) (t s : Tracer) (seen : List Traced) (last : Option WordPassed) → IsOn u t seen
    → ((l : List Traced) → HasTraced t l → HasTraced s (l ++ option_to_list (option_map passed_of last)))
    → HasPassedOn u s seen last
ends_by u t s seen last on then = record {
  more = on.more;
  passed = on.passed;
  traced = subst (HasTraced s) (append_assoc seen on.more (option_to_list (option_map passed_of last)))
      (then (seen ++ on.more) on.traced);
}

pub ends_here : (u : Until) (t : Tracer) (seen : List Traced) → IsOn u t seen → HasPassedOn u t seen None
ends_here u t seen on = ends_by u t t seen None on (λ l h. subst (HasTraced t) (sym (append-nil l)) h)

-- a stretch more
pub joins : (u : Until) (t s : Tracer) (seen : List Traced) (last : Option WordPassed) → IsOn u t seen
    → ((l : List Traced) → HasTraced t l → HasPassedOn u s l last) → HasPassedOn u s seen last
joins u t s seen last on then =
    let p = then (seen ++ on.more) on.traced in
    let end = option_to_list (option_map passed_of last) in
    record {
      more = on.more ++ p.more;
      passed = All-append (IsPassed u) on.more p.more on.passed p.passed;
      traced = subst (HasTraced s)
          (append_assoc seen on.more (p.more ++ end)
          ∙ ap (λ l. seen ++ l) (sym (append_assoc on.more p.more end))) p.traced;
    }

pub is_on : (u : Until) (t : Tracer) (seen : List Traced) → HasPassedOn u t seen None → IsOn u t seen
is_on u t seen p = record {
  more = p.more;
  passed = p.passed;
  traced = subst (λ l. HasTraced t (seen ++ l)) (append-nil p.more) p.traced;
}

pub same_self : (t : Tracer) → IsSame t t
same_self t = record { work = refl; plan = refl; rec_is = refl; kinds = refl }

pub same_by : (t u : Tracer) → IsSameRun t.replayer u.replayer → u.plan.now ≡ t.plan.now → u.kinds ≡ t.kinds
    → IsSame t u
same_by t u run plan kinds = record { work = run.work; plan = plan; rec_is = run.rec_is; kinds = kinds }

pub same_on : (t u v : Tracer) → IsSame t u → IsSame u v → IsSame t v
same_on t u v a b = record {
  work = b.work ∙ a.work;
  plan = b.plan ∙ a.plan;
  rec_is = b.rec_is ∙ a.rec_is;
  kinds = b.kinds ∙ a.kinds;
}
