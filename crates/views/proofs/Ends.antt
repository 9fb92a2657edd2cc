-- What is traced up to a stamp.
use Rattle.std.proofs.Common.{◌≡◌, ℕ, ◌<◌, ◌≤◌, List, [], ◌∷◌, ◌++◌, sym, ◌∙◌, subst, arith, append-nil, append_assoc}
use Rattle.std.proofs.lemmas.List.Elements.{All-nil, All-cons, All-weaker}
use Rattle.run_trace.specs.declared.tracer.Tracer.{Tracer}
use Rattle.run_trace.specs.Traced.{Traced}
use Rattle.run_trace.specs.Tracing.{HasTraced, plan_traced, record_traced, work_traced}
use Rattle.run_trace.proofs.Wholes.{HasOne}
use Rattle.views.specs.Failures.{AreAllUpTo}
use Rattle.views.proofs.Lines.{IsWhole, goes_further, same_self, same_trace}
use Rattle.views.proofs.Ordered.{AreFrom, AreInOrder, behind_from, in_order}

-- all were made
pub ends_whole : (t : Tracer) (to : ℕ) (seen trace : List Traced) → HasOne (record_traced t) → IsWhole t seen
    → IsWhole t trace → AreAllUpTo to seen trace
ends_whole t to seen trace one all whole = record {
  behind = [];
  trace_is = same_trace (work_traced t) (plan_traced t) (record_traced t) trace seen one whole all
      ∙ sym (append-nil seen);
  later = All-nil (λ (x : Traced). to < x.stamp);
}

-- one that is later was made, and those behind it are as late
pub ends_later : (t : Tracer) (to : ℕ) (seen : List Traced) (x : Traced) (trace : List Traced)
    → HasOne (record_traced t) → HasTraced t (seen ++ x ∷ []) → to < x.stamp → IsWhole t trace
    → AreAllUpTo to seen trace
ends_later t to seen x trace one traced late whole =
    let more = goes_further t t (seen ++ x ∷ []) trace one traced (same_self t) whole in
    let is : trace ≡ seen ++ (x ∷ more.0) = more.1 ∙ append_assoc seen (x ∷ []) more.0 in
    let from : AreFrom x.stamp more.0 =
    behind_from seen x more.0 (subst AreInOrder is (in_order (work_traced t) (plan_traced t) (record_traced t) trace whole)) in
    record {
      behind = x ∷ more.0;
      trace_is = is;
      later = All-cons (λ (y : Traced). to < y.stamp) x more.0 late
          (All-weaker (λ (y : Traced). x.stamp ≤ y.stamp) (λ (y : Traced). to < y.stamp)
          (λ y le. omega (arith, le, late)) more.0 from);
    }
