-- A record's picks, event by event.
use Rattle.std.proofs.Common.{◌≡◌, ◌⊎◌, ℕ, List, [], ◌∷◌, ◌++◌, sym, ap, ◌∙◌, subst, append-nil}
use Rattle.std.proofs.lemmas.Grind.{flat_map-append}
use Rattle.std.specs.Prelude.{map}
use Rattle.block_layout.specs.Layout.{IsValid}
use Rattle.rv32_program.specs.Program.{IsAccepted}
use Rattle.rv32_step.specs.OneMemory.{Pick}
use Rattle.templates.specs.declared.plans.PlanEntry.{PlanEntry}
use Rattle.run_trace.specs.node_model.jump_map.Image.{IsRewriting}
use Rattle.run_trace.specs.node_model.Node.{Work, IsLaidOver}
use Rattle.run_trace.specs.node_model.Core.{Event, IsCoreRun, opening_core, after}
use Rattle.run_trace.specs.replay.Refusals.{IsFirstBroken, IsUnfinished}
use Rattle.run_trace.specs.replay.Told.{what_told, events_told}
use Rattle.run_trace.specs.replay.declared.refused.ReplayRule.{ReplayRule}
use Rattle.run_trace.specs.replay.run_record.declared.Record.{Record}
use Rattle.run_trace.specs.replay.rewriting_law.Bounds.{RunsRewritten}
use Rattle.run_trace.specs.replay.rewriting_law.Interleaving.{Interleaves, SameReservations, original_after}
use Rattle.run_trace.specs.declared.tracer.Tracer.{Tracer}
use Rattle.run_trace.specs.Traced.{Traced}
use Rattle.run_trace.specs.Trace.{IsTraceOf}
use Rattle.run_trace.specs.Tracing.{HasTraced, IsSame, plan_traced, record_traced, work_traced}
use Rattle.record_picks.specs.Picks.{ArePicksOf, IsInterleaved}
use Rattle.record_picks.specs.Seen.{HasPickedOn, picks_seen, all_seen}
use Rattle.record_picks.proofs.Lists.{made_run}
use Rattle.record_picks.proofs.Traces.{AllReserve, of_trace}

-- these are the picks of the events made so far
pub record IsPicked (work : Work) (plan : List PlanEntry) (r : Record) (t : Tracer) (picks : List Pick)
    : Type 0
  where
    pub seen : List Traced
    pub traced : HasTraced t seen
    pub picks_are : picks ≡ all_seen seen
    pub work_is : work_traced t ≡ work
    pub plan_is : plan_traced t ≡ plan
    pub rec_is : record_traced t ≡ r

-- an event more
pub picked_more : (work : Work) (plan : List PlanEntry) (r : Record) (t u : Tracer) (picks more : List Pick) (x : Traced) (way : IsPicked work plan r t picks) → IsSame t u → HasTraced u (way.seen ++ x ∷ []) → more ≡ picks ++ picks_seen x → IsPicked work plan r u more
picked_more work plan r t u picks more x way same traced is = record {
  seen = way.seen ++ x ∷ [];
  traced = traced;
  picks_are = is ∙ ap (λ ks. ks ++ picks_seen x) way.picks_are
      ∙ ap (λ ks. all_seen way.seen ++ ks) (sym (append-nil (picks_seen x)))
      ∙ sym (flat_map-append picks_seen way.seen (x ∷ []));
  work_is = same.work ∙ way.work_is;
  plan_is = same.plan ∙ way.plan_is;
  rec_is = same.rec_is ∙ way.rec_is;
}

-- words more
pub picked_on : (work : Work) (plan : List PlanEntry) (r : Record) (t u : Tracer) (picks more : List Pick) (way : IsPicked work plan r t picks) → IsSame t u → HasPickedOn u way.seen picks more → IsPicked work plan r u more
picked_on work plan r t u picks more way same on = record {
  seen = way.seen ++ on.more;
  traced = on.traced;
  picks_are = on.picks_are ∙ ap (λ ks. ks ++ all_seen on.more) way.picks_are
      ∙ sym (flat_map-append picks_seen way.seen on.more);
  work_is = same.work ∙ way.work_is;
  plan_is = same.plan ∙ way.plan_is;
  rec_is = same.rec_is ∙ way.rec_is;
}

-- each core run of rewritten code has these facts
abbrev pub AllRuns : (Work → List PlanEntry → List Event → Type 0) → Type 0
AllRuns Has = (work : Work) (plan : List PlanEntry) (events : List Event)
    → IsAccepted work.program → IsValid work.layout → IsLaidOver work.program work.layout
    → IsRewriting work.program plan work.image → IsCoreRun work (opening_core work) events
    → Has work plan events

abbrev pub HaveReservations : Work → List PlanEntry → List Event → Type 0
HaveReservations work plan events =
    SameReservations work (after work (opening_core work) events) (original_after work plan events)

module _ (work : Work) (plan : List PlanEntry) (r : Record) (picks : List Pick)
    (runs : RunsRewritten work) (rewriting : IsRewriting work.program plan work.image) where
  reserve : AllRuns HaveReservations → AllReserve work plan
  reserve law events is = law work plan events runs.accepted runs.valid runs.laid_over rewriting is

  -- all events were made
  pub all_picked : AllRuns HaveReservations → (t u : Tracer) (way : IsPicked work plan r t picks) → IsSame t u → IsTraceOf (work_traced u) (plan_traced u) (record_traced u) way.seen → ArePicksOf work plan r picks
  all_picked law t u way same whole =
      let trace : IsTraceOf work plan r way.seen =
      subst (λ x. IsTraceOf work plan x way.seen) (same.rec_is ∙ way.rec_is)
      (subst (λ x. IsTraceOf work x (record_traced u) way.seen) (same.plan ∙ way.plan_is)
      (subst (λ x. IsTraceOf x (plan_traced u) (record_traced u) way.seen) (same.work ∙ way.work_is) whole)) in
      record {
        told = trace.told;
        whole = trace.whole;
        picks_are = way.picks_are ∙ ap all_seen trace.trace_is
            ∙ of_trace work plan (reserve law) (map what_told trace.told) trace.whole.made;
      }

  pub all_allowed : AllRuns Interleaves → ArePicksOf work plan r picks → IsInterleaved work picks
  all_allowed law are =
      let run = made_run work (opening_core work) (map what_told are.told) are.whole.made in
      subst (IsInterleaved work) (sym are.picks_are)
      (law work plan (events_told are.told) runs.accepted runs.valid runs.laid_over rewriting run).allowed

abbrev IsRefusedAt : Work → Record → ReplayRule → (node entry : ℕ) → Type 0
IsRefusedAt work kept rule node entry = IsFirstBroken work kept rule node entry ⊎ IsUnfinished work kept rule node entry

pub refused_by : (t : Tracer) (work : Work) (kept : Record) (rule : ReplayRule) (node entry : ℕ) → work_traced t ≡ work → record_traced t ≡ kept → IsRefusedAt (work_traced t) (record_traced t) rule node entry → IsRefusedAt work kept rule node entry
refused_by t work kept rule node entry w k h =
    subst (λ x. IsRefusedAt work x rule node entry) k
    (subst (λ x. IsRefusedAt x (record_traced t) rule node entry) w h)
