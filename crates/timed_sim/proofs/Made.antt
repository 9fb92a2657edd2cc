-- What a run keeps behind an event, and at the start.
use Rattle.std.proofs.Common.{◌≡◌, ℕ, ◌+◌, ◌≤◌, List, [], ◌∷◌, length, map, refl, sym, ap, ◌∙◌, subst, arith}
use Rattle.templates.specs.declared.plans.PlanEntry.{PlanEntry}
use Rattle.block_layout.specs.Layout.{Shape}
use Rattle.dsm_core.specs.dsm_messages.declared.headers.Sent.{Sent}
use Rattle.dsm_core.specs.dsm_messages.Headers.{sent_by}
use Rattle.dsm_core.specs.node_machine.declared.wanted.Wanted.{Wanted}
use Rattle.dsm_core.specs.node_model.declared.Standing.{Standing}
use Rattle.dsm_core.specs.node_model.Node.{Work, standing_of}
use Rattle.dsm_core.specs.node_model.Core.{Core, Event, Exec, Take, May, AreAlike, opening_core, event_step}
use Rattle.dsm_core.specs.run_order.OwnRun.{node_of}
use Rattle.dsm_core.specs.CoreParts.{work_of, core_of}
use Rattle.dsm_core.specs.Seen.{sends_at, wants_at}
use Rattle.run_trace.specs.Steps.{steps_made}
use Rattle.timed_sim.specs.declared.costs.Costs.{Costs}
use Rattle.timed_sim.specs.declared.costs.Spent.{Spent}
use Rattle.timed_sim.specs.declared.counting.StepCount.{StepCount}
use Rattle.timed_sim.specs.declared.run.TimedRun.{TimedRun}
use Rattle.timed_sim.specs.Clock.{AreInRange, Due, Times, clock_of, next, opening_times, times_after, times_by}
use Rattle.timed_sim.specs.Counted.{CountsFor}
use Rattle.timed_sim.specs.Stored.{AreInStep, AreSameTimes, AreWithin, HasMade, HaveBeenMade, AreClocks, IsBelow, IsKept, IsReady, plan_in, times_in, times_of}
use Rattle.timed_sim.proofs.Arrivals.{AreBy, by_more}
use Rattle.timed_sim.proofs.Steps.{step_in_step}

pub may_below : (work : Work) (c : Core) (e : Event) → May work c e → IsBelow work.layout.nodes e
may_below work c (Exec i) may = may.0
may_below work c (Take i j) may = (may.0, may.1)

-- 1. An event that was seen

pub made_by : (costs : Costs) (work : Work) (times new_times : Times) (c new : Core) (d : Due)
    (standing : Standing) (wants : List Wanted) (sends : List Sent)
    → AreAlike work.layout.nodes new (event_step work c d.event)
    → standing ≡ standing_of work (c.nodes (node_of d.event))
    → wants ≡ wants_at work c d.event → sends ≡ map sent_by (sends_at work c d.event)
    → AreSameTimes work.layout.nodes new_times
    (times_by costs work.layout standing wants sends times d)
    → HasMade costs work times c d new_times new
made_by costs work times new_times c new d standing wants sends alike stood wanted sent same =
    let is : times_by costs work.layout standing wants sends times d ≡ times_after costs work times c d =
    λ z. times_by costs work.layout (stood z) (wanted z) (sent z) times d in
    record {
      core_is = alike;
      times_are = subst (λ (u : Times). AreSameTimes work.layout.nodes new_times u) is same;
    }

-- the same of a run on its way, where a layout is that of its core
pub made_here : (costs : Costs) (old new : TimedRun) (layout : Shape) (d : Due)
    (standing : Standing) (wants : List Wanted) (sends : List Sent)
    → layout ≡ new.core.layout → work_of new.core ≡ work_of old.core
    → AreAlike old.core.layout.nodes (core_of new.core)
    (event_step (work_of old.core) (core_of old.core) d.event)
    → standing ≡ standing_of (work_of old.core) ((core_of old.core).nodes (node_of d.event))
    → wants ≡ wants_at (work_of old.core) (core_of old.core) d.event
    → sends ≡ map sent_by (sends_at (work_of old.core) (core_of old.core) d.event)
    → AreSameTimes layout.nodes (times_of layout.nodes new.clocks)
    (times_by costs layout standing wants sends (times_of layout.nodes old.clocks) d)
    → HasMade costs (work_of old.core) (times_in old) (core_of old.core) d (times_in new)
    (core_of new.core)
made_here costs old new layout d standing wants sends here same alike stood wanted sent times =
    let is : layout ≡ old.core.layout = here ∙ ap (λ (w : Work). w.layout) same in
    let after = times_by costs old.core.layout standing wants sends (times_in old) d in
    made_by costs (work_of old.core) (times_in old) (times_in new) (core_of old.core)
    (core_of new.core) d standing wants sends alike stood wanted sent
    (subst (λ n. AreSameTimes old.core.layout.nodes (times_of n new.clocks) after)
    (sym (ap (λ (w : Work). w.layout.nodes) same))
    (subst (λ (s : Shape). AreSameTimes s.nodes (times_of s.nodes new.clocks)
    (times_by costs s standing wants sends (times_of s.nodes old.clocks) d)) is times))

pub made_in_step : (costs : Costs) (work : Work) (times new_times : Times) (c new : Core) (d : Due)
    → May work c d.event → AreInStep work.layout.nodes times c
    → HasMade costs work times c d new_times new → AreInStep work.layout.nodes new_times new
made_in_step costs work times new_times c new d may in_step made j i bj bi =
    ap length (made.times_are.arrivals j i bj bi)
    ∙ step_in_step costs work times c d may in_step j i bj bi
    ∙ ap length (sym (made.core_is.lists j i bj bi))

-- the steps of the same code are counted
pub counted_for : (v w : Work) (plan : List PlanEntry) (s : StepCount) → w ≡ v → CountsFor v plan s
    → CountsFor w s.plan.now s
counted_for v w plan s same counts =
    subst (λ (x : Work). CountsFor x s.plan.now s) (sym same)
    (subst (λ (ps : List PlanEntry). CountsFor v ps s) (sym counts.plan_is) counts)

pub counts_here : (old new : TimedRun) → work_of new.core ≡ work_of old.core
    → plan_in new ≡ plan_in old → CountsFor (work_of old.core) (plan_in old) new.count
    → CountsFor (work_of new.core) (plan_in new) new.count
counts_here old new same plan counts =
    subst (λ (w : Work). CountsFor w (plan_in new) new.count) (sym same)
    (subst (λ (ps : List PlanEntry). CountsFor (work_of old.core) ps new.count) (sym plan) counts)

pub ready_made : (costs : Costs) (old new : TimedRun) (d : Due)
    → work_of new.core ≡ work_of old.core → new.costs ≡ old.costs → new.undo_logs ≡ old.undo_logs
    → plan_in new ≡ plan_in old → CountsFor (work_of old.core) (plan_in old) new.count
    → May (work_of old.core) (core_of old.core) d.event → IsReady old
    → AreClocks old.core.layout.nodes new.clocks
    → HasMade costs (work_of old.core) (times_in old) (core_of old.core) d (times_in new)
    (core_of new.core) → IsReady new
ready_made costs old new d same costs_same logs plan counts may ready clocks made = record {
  clocks = subst (λ (w : Work). AreClocks w.layout.nodes new.clocks) (sym same) clocks;
  costs = subst AreInRange (sym costs_same) ready.costs;
  undo_logs = logs ∙ ready.undo_logs ∙ ap (λ (w : Work). w.layout.nodes) (sym same);
  in_step = subst (λ (w : Work). AreInStep w.layout.nodes (times_in new) (core_of new.core))
      (sym same)
      (made_in_step costs (work_of old.core) (times_in old) (times_in new) (core_of old.core)
      (core_of new.core) d may ready.in_step made);
  counts = counts_here old new same plan counts;
}

-- nothing has changed
pub times_kept : (old new : TimedRun) → IsKept old new → times_in new ≡ times_in old
times_kept old new kept =
    let work = kept.work in
    let clocks = kept.clocks in
    λ t. times_of (work t).layout.nodes (clocks t)

pub plan_kept : (old new : TimedRun) → IsKept old new → plan_in new ≡ plan_in old
plan_kept old new kept =
    let count = kept.count in
    λ t. (count t).plan.now

pub ready_kept : (old new : TimedRun) → IsKept old new → IsReady old → IsReady new
ready_kept old new kept ready =
    let n = old.core.layout.nodes in
    record {
      clocks = subst (λ (w : Work). AreClocks w.layout.nodes new.clocks) (sym kept.work)
          (subst (AreClocks n) (sym kept.clocks) ready.clocks);
      costs = subst AreInRange (sym kept.costs) ready.costs;
      undo_logs = kept.undo_logs ∙ ready.undo_logs ∙ ap (λ (w : Work). w.layout.nodes) (sym kept.work);
      in_step = subst (λ (w : Work). AreInStep w.layout.nodes (times_in new) (core_of new.core))
          (sym kept.work)
          (subst (λ (t : Times). AreInStep n t (core_of new.core)) (sym (times_kept old new kept))
          (subst (AreInStep n (times_in old)) (sym kept.core) ready.in_step));
      counts = counts_here old new kept.work (plan_kept old new kept)
          (subst (CountsFor (work_of old.core) (plan_in old)) (sym kept.count) ready.counts);
    }

pub within_kept : (old new : TimedRun) (most : ℕ) → IsKept old new
    → AreWithin old.core.layout.nodes most (times_in old)
    → AreWithin new.core.layout.nodes most (times_in new)
within_kept old new most kept within =
    subst (λ (w : Work). AreWithin w.layout.nodes most (times_in new)) (sym kept.work)
    (subst (AreWithin old.core.layout.nodes most) (sym (times_kept old new kept)) within)

pub next_kept : (old new : TimedRun) → IsKept old new
    → next (work_of new.core) (times_in new) (core_of new.core)
    ≡ next (work_of old.core) (times_in old) (core_of old.core)
next_kept old new kept =
    let work = kept.work in
    let times = times_kept old new kept in
    let core = kept.core in
    λ t. next (work t) (times t) (core t)

pub made_kept : (old new : TimedRun) (d : Due) (times : Times) (c : Core) → IsKept old new
    → HasMade new.costs (work_of new.core) (times_in new) (core_of new.core) d times c
    → HasMade old.costs (work_of old.core) (times_in old) (core_of old.core) d times c
made_kept old new d times c kept made =
    subst (λ (k : Costs). HasMade k (work_of old.core) (times_in old) (core_of old.core) d times c)
    kept.costs
    (subst (λ (z : Core). HasMade new.costs (work_of old.core) (times_in old) z d times c) kept.core
    (subst (λ (t : Times). HasMade new.costs (work_of old.core) t (core_of new.core) d times c)
    (times_kept old new kept)
    (subst (λ (w : Work). HasMade new.costs w (times_in new) (core_of new.core) d times c) kept.work made)))

pub steps_kept : (old mid new : TimedRun) (e : Event) → IsKept old mid → HaveBeenMade mid new e
    → HaveBeenMade old new e
steps_kept old mid new e kept made =
    let work = kept.work in
    let core = kept.core in
    let count = kept.count in
    made ∙ (λ t. (count t).steps + steps_made (work t) (count t).plan.now (core t) (e ∷ []))

-- 2. No time is far

pub within_same : (n most : ℕ) (s t : Times) → AreSameTimes n s t → AreWithin n most t
    → AreWithin n most s
within_same n most s t same within = record {
  clocks = λ i low. subst (λ (z : Spent). clock_of z ≤ most) (sym (same.spent i low)) (within.clocks i low);
  arrivals = λ j i below low. subst (AreBy most) (sym (same.arrivals j i below low))
      (within.arrivals j i below low);
}

pub within_more : (n most more : ℕ) (t : Times) → most ≤ more → AreWithin n most t
    → AreWithin n more t
within_more n most more t le within = record {
  clocks = λ i low. let h = within.clocks i low in omega (arith, h, le);
  arrivals = λ j i below low. by_more most more (t.arrivals j i) le (within.arrivals j i below low);
}

pub opening_within : (n : ℕ) → AreWithin n 0 opening_times
opening_within n = record {
  clocks = λ i low. omega arith;
  arrivals = λ j i below low k d none. absurd (omega (arith, none));
}

pub opening_in_step : (n : ℕ) (work : Work) → AreInStep n opening_times (opening_core work)
opening_in_step n work j i below low = refl
