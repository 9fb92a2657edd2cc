-- The lines of a trace, which are put in pieces, an event after another.
use Rattle.std.proofs.Common.{◌≡◌, ℕ, true, false, cond, List, [], ◌∷◌, ◌++◌, refl, sym, ap, ◌∙◌, subst, append-nil, append_assoc}
use Rattle.std.specs.List.{flat_map}
use Rattle.std.proofs.lemmas.Grind.{flat_map-append}
use Rattle.std.proofs.lemmas.List.Elements.{filter-append}
use Rattle.elf32_read.specs.Elf.{Elf}
use Rattle.dsm_io.specs.Causes.{Appends}
use Rattle.dsm_io.specs.States.{SinkState}
use Rattle.templates.specs.declared.plans.PlanEntry.{PlanEntry}
use Rattle.node_model.specs.Node.{Work}
use Rattle.run_record.specs.declared.Record.{Record as Kept}
use Rattle.run_trace.specs.declared.tracer.Tracer.{Tracer}
use Rattle.run_trace.specs.Traced.{Traced}
use Rattle.run_trace.specs.Trace.{IsTraceOf, trace_of}
use Rattle.run_trace.specs.Tracing.{HasTraced, IsSame, plan_traced, record_traced, work_traced}
use Rattle.run_trace.proofs.Wholes.{HasOne, goes_on, so_far}
use Rattle.block_view.specs.event_text.declared.shown.EventFilter.{EventFilter}
use Rattle.block_view.specs.event_text.Events.{event_line}
use Rattle.block_view.specs.event_text.Shown.{head, is_shown, shown, trace_text}
use Rattle.text_output.specs.declared.failure.Failure.{Failure}
use Rattle.text_output.specs.declared.failure.Failure.TheVariants.{OutOfMemory}
use Rattle.text_output.specs.Failures.{FailsAs, IsLike, IsNever, IsPutFailure}
use Rattle.text_output.proofs.Pieces.{joins, put_fails, stops_behind}
use Rattle.views.specs.Failures.{TellsWhole}
use Rattle.views.specs.Trace.{HasPushedMore, ShowsNoMore}

-- the lines of some events
abbrev pub lines_of : Elf → EventFilter → List Traced → List ℕ
lines_of elf o events = flat_map (event_line elf) (shown o events)

text_more : (elf : Elf) (o : EventFilter) (seen more : List Traced)
    → trace_text elf o (seen ++ more) ≡ trace_text elf o seen ++ lines_of elf o more
text_more elf o seen more =
    ap (λ xs. head ++ flat_map (event_line elf) xs) (filter-append (is_shown o) seen more)
    ∙ ap (λ t. head ++ t) (flat_map-append (event_line elf) (shown o seen) (shown o more))
    ∙ sym (append_assoc head (lines_of elf o seen) (lines_of elf o more))

-- an event that is shown has a line, and one that isn't has none
pub line_shown : (elf : Elf) (o : EventFilter) (x : Traced) → is_shown o x ≡ true
    → lines_of elf o (x ∷ []) ≡ event_line elf x
line_shown elf o x e =
    ap (λ b. flat_map (event_line elf) (cond b (x ∷ []) [])) e ∙ append-nil (event_line elf x)

pub line_hidden : (elf : Elf) (o : EventFilter) (x : Traced) → is_shown o x ≡ false
    → lines_of elf o (x ∷ []) ≡ []
line_hidden elf o x e = ap (λ b. flat_map (event_line elf) (cond b (x ∷ []) [])) e

-- events were made, and their lines were put in pieces, or are gathered
pub record IsUnderWay (elf : Elf) (o : EventFilter) (first t : Tracer) (start now : SinkState) (lines : List ℕ) : Type 0
  where
    pub seen : List Traced
    pub traced : HasTraced t seen
    pub same : IsSame first t
    pub pieces : List ℕ
    pub put : Appends start.taken now.taken pieces
    pub faults : now.faults ≡ start.faults
    pub reached : pieces ++ lines ≡ trace_text elf o seen

pub same_on : (s t u : Tracer) → IsSame s t → IsSame t u → IsSame s u
same_on s t u h k = record {
  work = k.work ∙ h.work;
  plan = k.plan ∙ h.plan;
  rec_is = k.rec_is ∙ h.rec_is;
  kinds = k.kinds ∙ h.kinds;
}

pub same_self : (t : Tracer) → IsSame t t
same_self t = record { work = refl; plan = refl; rec_is = refl; kinds = refl }

-- more events
pub events_gathered : (elf : Elf) (o : EventFilter) (first t u : Tracer) (start now : SinkState) (lines more : List ℕ)
    (way : IsUnderWay elf o first t start now lines) → IsSame t u → HasPushedMore elf o u way.seen lines more
    → IsUnderWay elf o first u start now more
events_gathered elf o first t u start now lines more way same pushed = record {
  seen = way.seen ++ pushed.more;
  traced = pushed.traced;
  same = same_on first t u way.same same;
  pieces = way.pieces;
  put = way.put;
  faults = way.faults;
  reached = ap (λ l. way.pieces ++ l) pushed.lines_are
      ∙ sym (append_assoc way.pieces lines (lines_of elf o pushed.more))
      ∙ ap (λ l. l ++ lines_of elf o pushed.more) way.reached
      ∙ sym (text_more elf o way.seen pushed.more);
}

-- the lines are put
pub lines_put : (elf : Elf) (o : EventFilter) (first t : Tracer) (start before now : SinkState) (lines rest : List ℕ)
    → IsUnderWay elf o first t start before lines → Appends before.taken now.taken lines
    → now.faults ≡ before.faults → rest ≡ [] → IsUnderWay elf o first t start now rest
lines_put elf o first t start before now lines rest way put same nil = record {
  seen = way.seen;
  traced = way.traced;
  same = way.same;
  pieces = way.pieces ++ lines;
  put = joins start.taken before.taken now.taken way.pieces lines way.put put;
  faults = same ∙ way.faults;
  reached = ap (λ r. (way.pieces ++ lines) ++ r) nil ∙ append-nil (way.pieces ++ lines) ∙ way.reached;
}

-- the trace of the whole run
abbrev pub IsWhole : Tracer → List Traced → Type 0
IsWhole t trace = IsTraceOf (work_traced t) (plan_traced t) (record_traced t) trace

pub whole_same : (first t : Tracer) (trace : List Traced) → IsSame first t → IsWhole first trace → IsWhole t trace
whole_same first t trace same whole =
    subst (λ r. IsTraceOf (work_traced t) (plan_traced t) r trace) (sym same.rec_is)
    (subst (λ p. IsTraceOf (work_traced t) p (record_traced first) trace) (sym same.plan)
    (subst (λ w. IsTraceOf w (plan_traced first) (record_traced first) trace) (sym same.work) whole))

-- the trace of the whole run begins with what is traced so far
pub goes_further : (first t : Tracer) (seen trace : List Traced) → HasOne (record_traced t) → HasTraced t seen
    → IsSame first t → IsWhole first trace → (more : List Traced) × (trace ≡ seen ++ more)
goes_further first t seen trace one traced same whole =
    goes_on (work_traced t) (plan_traced t) (record_traced t) seen trace one (so_far t seen traced)
    (whole_same first t trace same whole)

-- what is left of the whole text
pub rest_of : (elf : Elf) (o : EventFilter) (first t : Tracer) (start now : SinkState) (lines : List ℕ)
    (trace : List Traced) → HasOne (record_traced t) → (way : IsUnderWay elf o first t start now lines)
    → IsWhole first trace
    → (rest : List ℕ) × (trace_text elf o trace ≡ way.pieces ++ (lines ++ rest))
rest_of elf o first t start now lines trace one way whole =
    let more = goes_further first t way.seen trace one way.traced way.same whole in
    let rest = lines_of elf o more.0 in (
      rest,
      ap (trace_text elf o) more.1 ∙ text_more elf o way.seen more.0
          ∙ ap (λ l. l ++ rest) (sym way.reached) ∙ append_assoc way.pieces lines rest,
    )

-- the lines aren't put
pub lines_fail : (elf : Elf) (o : EventFilter) (first t : Tracer) (start before now : SinkState) (lines : List ℕ)
    (trace : List Traced) (f : Failure) → HasOne (record_traced t)
    → IsUnderWay elf o first t start before lines → IsWhole first trace → IsPutFailure before now lines f
    → FailsAs (IsLike (trace_text elf o trace)) IsNever IsNever start now f
lines_fail elf o first t start before now lines trace f one way whole h =
    let rest = rest_of elf o first t start before lines trace one way whole in
    put_fails (IsLike (trace_text elf o trace)) IsNever IsNever (trace_text elf o trace) 0 start before now
    way.pieces lines rest.0 f refl rest.1 way.put way.faults h

-- no line more is gathered
pub lines_stop : (elf : Elf) (o : EventFilter) (first t : Tracer) (start now : SinkState) (lines : List ℕ)
    (trace : List Traced) (f : Failure) → HasOne (record_traced t) → f ≡ OutOfMemory
    → IsUnderWay elf o first t start now lines → IsWhole first trace
    → FailsAs (IsLike (trace_text elf o trace)) IsNever IsNever start now f
lines_stop elf o first t start now lines trace f one out way whole =
    let rest = rest_of elf o first t start now lines trace one way whole in
    stops_behind (IsLike (trace_text elf o trace)) IsNever IsNever (trace_text elf o trace) 0 start now
    way.pieces (lines ++ rest.0) f out refl rest.1 way.put

-- by the work, the plan and the record of a tracer
pub whole_by : (t : Tracer) (work : Work) (plan : List PlanEntry) (r : Kept) (trace : List Traced)
    → work_traced t ≡ work → plan_traced t ≡ plan → record_traced t ≡ r → IsTraceOf work plan r trace
    → IsWhole t trace
whole_by t work plan r trace w p k whole =
    subst (λ x. IsTraceOf (work_traced t) (plan_traced t) x trace) (sym k)
    (subst (λ x. IsTraceOf (work_traced t) x r trace) (sym p)
    (subst (λ x. IsTraceOf x plan r trace) (sym w) whole))

pub tells_by : (t : Tracer) (work : Work) (r : Kept) → work_traced t ≡ work → record_traced t ≡ r
    → TellsWhole work r → TellsWhole (work_traced t) (record_traced t)
tells_by t work r w k whole =
    subst (λ x. TellsWhole (work_traced t) x) (sym k) (subst (λ x. TellsWhole x r) (sym w) whole)

pub same_trace : (work : Work) (plan : List PlanEntry) (r : Kept) (one other : List Traced) → HasOne r
    → IsTraceOf work plan r one → IsTraceOf work plan r other → one ≡ other
same_trace work plan r one other law a b =
    a.trace_is ∙ ap (trace_of work plan) (law a.told b.told a.whole.are_told b.whole.are_told) ∙ sym b.trace_is

-- all that are asked for were made, and their lines are put
pub whole_put : (elf : Elf) (o : EventFilter) (first t u : Tracer) (start before now : SinkState) (lines : List ℕ)
    (trace : List Traced) → (way : IsUnderWay elf o first t start before lines) → IsSame t u
    → ShowsNoMore o u way.seen → IsWhole first trace → Appends before.taken now.taken lines
    → Appends start.taken now.taken (trace_text elf o trace)
whole_put elf o first t u start before now lines trace way same all whole put =
    let shown_is = all trace (whole_same first u trace (same_on first t u way.same same) whole) in
    subst (Appends start.taken now.taken)
    (way.reached ∙ ap (λ xs. head ++ flat_map (event_line elf) xs) (sym shown_is))
    (joins start.taken before.taken now.taken way.pieces lines way.put put)
