-- Sums over the events of a run, an event after another.
use Rattle.std.proofs.Common.{◌≡◌, ◌⊎◌, ℕ, List, [], ◌∷◌, ◌++◌, Some, None, sym, ◌∙◌, subst, append-nil, append_assoc}
use Rattle.std.specs.Prelude.{All}
use Rattle.block_layout.specs.Layout.{Shape}
use Rattle.templates.specs.declared.plans.PlanEntry.{PlanEntry}
use Rattle.node_model.specs.Node.{Work}
use Rattle.run_record.specs.declared.Record.{Record as Kept}
use Rattle.replay.specs.declared.refused.ReplayRule.{ReplayRule}
use Rattle.replay.specs.Refusals.{IsFirstBroken, IsUnfinished}
use Rattle.run_trace.specs.declared.passed.Until.TheVariants as until
use Rattle.run_trace.specs.declared.passed.WordPassed.{WordPassed}
use Rattle.run_trace.specs.declared.tracer.Tracer.{Tracer}
use Rattle.run_trace.specs.Passing.{HasPassedOn, IsPassed, passed_of}
use Rattle.run_trace.specs.Traced.{Traced}
use Rattle.run_trace.specs.Trace.{IsTraceOf}
use Rattle.run_trace.specs.Tracing.{HasTraced, IsSame, plan_traced, record_traced, work_traced}
use Rattle.block_view.specs.declared.sums.Sums.{Sums}
use Rattle.block_view.specs.Kept.{AreSumsOf, layout_in}
use Rattle.views.proofs.Lines.{IsWhole, same_on, whole_same}

-- events were made, and these are their sums
pub record IsSummed (first t : Tracer) (layout : Shape) (s : Sums) : Type 0 where
  pub seen : List Traced
  pub traced : HasTraced t seen
  pub same : IsSame first t
  pub sums : AreSumsOf s seen
  pub layout_is : layout_in s ≡ layout

-- words that are passed change no sum
abbrev pub PassesBy : Sums → List Traced → Type 0
PassesBy s seen = (more : List Traced) → All (IsPassed until.Write) more → AreSumsOf s (seen ++ more)

-- words were passed
pub passed_summed : (first t u : Tracer) (layout : Shape) (s : Sums) (way : IsSummed first t layout s)
    → IsSame t u → HasPassedOn until.Write u way.seen None → PassesBy s way.seen → IsSummed first u layout s
passed_summed first t u layout s way same p passes = record {
  seen = way.seen ++ p.more;
  traced = subst (λ l. HasTraced u (way.seen ++ l)) (append-nil p.more) p.traced;
  same = same_on first t u way.same same;
  sums = passes p.more p.passed;
  layout_is = way.layout_is;
}

-- an event more
pub event_summed : (first t u : Tracer) (layout : Shape) (s more : Sums) (x : Traced) (way : IsSummed first t layout s)
    → IsSame t u → HasTraced u (way.seen ++ x ∷ []) → AreSumsOf more (way.seen ++ x ∷ [])
    → layout_in more ≡ layout_in s → IsSummed first u layout more
event_summed first t u layout s more x way same traced sums laid_out = record {
  seen = way.seen ++ x ∷ [];
  traced = traced;
  same = same_on first t u way.same same;
  sums = sums;
  layout_is = laid_out ∙ way.layout_is;
}

-- words were passed, and one more
pub word_summed : (first t u : Tracer) (layout : Shape) (s more : Sums) (w : WordPassed) (way : IsSummed first t layout s)
    → IsSame t u → HasPassedOn until.Write u way.seen (Some w) → PassesBy s way.seen
    → ((seen : List Traced) → AreSumsOf s seen → AreSumsOf more (seen ++ passed_of w ∷ []))
    → layout_in more ≡ layout_in s → IsSummed first u layout more
word_summed first t u layout s more w way same p passes adds laid_out =
    let behind = way.seen ++ p.more in
    record {
      seen = behind ++ passed_of w ∷ [];
      traced = subst (HasTraced u) (sym (append_assoc way.seen p.more (passed_of w ∷ []))) p.traced;
      same = same_on first t u way.same same;
      sums = adds behind (passes p.more p.passed);
      layout_is = laid_out ∙ way.layout_is;
    }

same_back : (s t : Tracer) → IsSame s t → IsSame t s
same_back s t h = record { work = sym h.work; plan = sym h.plan; rec_is = sym h.rec_is; kinds = sym h.kinds }

-- all were made
pub whole_summed : (first t u : Tracer) (layout : Shape) (s : Sums) (way : IsSummed first t layout s) → IsSame t u
    → IsWhole u way.seen → IsWhole first way.seen
whole_summed first t u layout s way same all =
    whole_same u first way.seen (same_back first u (same_on first t u way.same same)) all

-- by the work, the plan and the record of a tracer
pub traced_by : (t : Tracer) (work : Work) (plan : List PlanEntry) (r : Kept) (trace : List Traced)
    → work_traced t ≡ work → plan_traced t ≡ plan → record_traced t ≡ r → IsWhole t trace
    → IsTraceOf work plan r trace
traced_by t work plan r trace w p k whole =
    subst (λ x. IsTraceOf work plan x trace) k
    (subst (λ x. IsTraceOf work x (record_traced t) trace) p
    (subst (λ x. IsTraceOf x (plan_traced t) (record_traced t) trace) w whole))

-- an event breaks a rule, or a journal ends too early
abbrev pub IsRefusedAt : Work → Kept → ReplayRule → (node entry : ℕ) → Type 0
IsRefusedAt work kept rule node entry = IsFirstBroken work kept rule node entry ⊎ IsUnfinished work kept rule node entry

pub refused_by : (t : Tracer) (work : Work) (kept : Kept) (rule : ReplayRule) (node entry : ℕ)
    → work_traced t ≡ work → record_traced t ≡ kept
    → IsRefusedAt (work_traced t) (record_traced t) rule node entry → IsRefusedAt work kept rule node entry
refused_by t work kept rule node entry w k h =
    subst (λ x. IsRefusedAt work x rule node entry) k
    (subst (λ x. IsRefusedAt x (record_traced t) rule node entry) w h)
