-- The events of a trace come by their stamps.
use Rattle.std.proofs.Common.{◌≡◌, ℕ, ◌<◌, ◌≤◌, Bool, true, false, cond, ◌&&◌, List, [], ◌∷◌, ◌++◌, map, Option, Some, None, refl, sym, ap, ◌∙◌, subst, arith, append-nil}
use Rattle.std.specs.Prelude.{All, nat_le, option_to_list}
use Rattle.std.specs.Option.{option_map}
use Rattle.std.proofs.lemmas.Bool.{lt-leb}
use Rattle.std.proofs.lemmas.List.Elements.{All-nil, All-cons, All-head, All-tail, All-append, filter-append}
use Rattle.templates.specs.declared.plans.PlanEntry.{PlanEntry}
use Rattle.node_model.specs.Node.{Work}
use Rattle.node_model.specs.Core.{Core, event_step, opening_core}
use Rattle.run_order.specs.OwnRun.{Stamped, maker}
use Rattle.run_order.specs.Sorted.{AreSorted, PrecedesAll}
use Rattle.run_record.specs.declared.Record.{Record}
use Rattle.replay.specs.Told.{Told, maker_told, stamp_told, what_told}
use Rattle.run_trace.specs.Traced.{Traced, What, what_at}
use Rattle.run_trace.specs.Trace.{IsTraceOf, trace_from}
use Rattle.block_view.specs.event_text.declared.shown.EventFilter.{EventFilter}
use Rattle.block_view.specs.event_text.Shown.{is_shown, shown}
use Rattle.views.specs.Failures.{AreAllUpTo}

-- each has at least this stamp
abbrev pub AreFrom : ℕ → List Traced → Type 0
AreFrom s xs = All (λ (x : Traced). s ≤ x.stamp) xs

-- no stamp is below one before it
abbrev pub AreInOrder : List Traced → Type 0
AreInOrder [] = Unit {0}
AreInOrder (x ∷ xs) = AreFrom x.stamp xs × AreInOrder xs

-- what an event did, if it did anything, has its stamp
abbrev done : Stamped → Option What → List Traced
done x o = option_to_list (option_map (λ (w : What). record { stamp = x.stamp; node = maker x; what = w }) o)

done_from : (s : ℕ) (x : Stamped) (o : Option What) → s ≤ x.stamp → AreFrom s (done x o)
done_from s x None le = All-nil (λ (y : Traced). s ≤ y.stamp)
done_from s x (Some w) le =
    All-cons (λ (y : Traced). s ≤ y.stamp) (record { stamp = x.stamp; node = maker x; what = w }) [] le
    (All-nil (λ (y : Traced). s ≤ y.stamp))

done_before : (x : Stamped) (o : Option What) (rest : List Traced) → AreFrom x.stamp rest → AreInOrder rest
    → AreInOrder (done x o ++ rest)
done_before x None rest from order = order
done_before x (Some w) rest from order = (from, order)

told_from : (work : Work) (plan : List PlanEntry) (c : Core) (x : Told) (xs : List Told)
    → PrecedesAll stamp_told maker_told x xs → AreFrom (stamp_told x) (trace_from work plan c (map what_told xs))
told_from work plan c x [] h = All-nil (λ (y : Traced). stamp_told x ≤ y.stamp)
told_from work plan c x (y ∷ ys) h =
    let d = event_step work c y.what.event in
    let first = h.0 in
    All-append (λ (z : Traced). stamp_told x ≤ z.stamp) (done y.what (what_at work plan c y.what.event))
    (trace_from work plan d (map what_told ys))
    (done_from (stamp_told x) y.what (what_at work plan c y.what.event) (omega (arith, first)))
    (told_from work plan d x ys h.1)

told_in_order : (work : Work) (plan : List PlanEntry) (c : Core) (told : List Told)
    → AreSorted stamp_told maker_told told → AreInOrder (trace_from work plan c (map what_told told))
told_in_order work plan c [] h = tt
told_in_order work plan c (x ∷ xs) h =
    let d = event_step work c x.what.event in
    done_before x.what (what_at work plan c x.what.event) (trace_from work plan d (map what_told xs))
    (told_from work plan d x xs h.0) (told_in_order work plan d xs h.1)

pub in_order : (work : Work) (plan : List PlanEntry) (r : Record) (trace : List Traced)
    → IsTraceOf work plan r trace → AreInOrder trace
in_order work plan r trace h =
    subst AreInOrder (sym h.trace_is) (told_in_order work plan (opening_core work) h.told h.whole.are_told.sorted)

-- those behind one
pub behind_from : (seen : List Traced) (x : Traced) (behind : List Traced) → AreInOrder (seen ++ x ∷ behind)
    → AreFrom x.stamp behind
behind_from [] x behind h = h.0
behind_from (y ∷ ys) x behind h = behind_from ys x behind h.1

-- an event behind the last stamp that is asked for isn't shown
neither : (a b : Bool) → ((a && false) && b) ≡ false
neither true b = refl
neither false b = refl

late_hidden : (o : EventFilter) (x : Traced) → o.to < x.stamp → is_shown o x ≡ false
late_hidden o x late = rw (lt-leb x.stamp o.to late) (neither (nat_le o.from x.stamp) _)

none_shown : (o : EventFilter) (xs : List Traced) → All (λ (x : Traced). o.to < x.stamp) xs → shown o xs ≡ []
none_shown o [] h = refl
none_shown o (x ∷ xs) h =
    ap (λ b. cond b (x ∷ shown o xs) (shown o xs))
    (late_hidden o x (All-head (λ (y : Traced). o.to < y.stamp) x xs h))
    ∙ none_shown o xs (All-tail (λ (y : Traced). o.to < y.stamp) x xs h)

pub all_shown : (o : EventFilter) (seen trace : List Traced) → AreAllUpTo o.to seen trace
    → shown o trace ≡ shown o seen
all_shown o seen trace h =
    ap (shown o) h.trace_is ∙ filter-append (is_shown o) seen h.behind
    ∙ ap (λ l. shown o seen ++ l) (none_shown o h.behind h.later) ∙ append-nil (shown o seen)
