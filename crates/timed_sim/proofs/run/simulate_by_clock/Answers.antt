-- Each turn makes the next event by the rule; no core run has as many events as there are turns.
use Rattle.std.proofs.Common.{◌≡◌, ◌≤◌, ◌+◌, ◌*◌, ◌^◌, List, IfOk, All, sym, ap, ◌∙◌, subst, arith}
use Rattle.std.proofs.lemmas.Result.{IfOk-weaker}
use Rattle.templates.specs.declared.plans.PlanEntry.{PlanEntry}
use Rattle.dsm_core.specs.node_model.Node.{Work}
use Rattle.dsm_core.specs.node_model.Core.{Core, IsOver}
use Rattle.dsm_core.specs.node_model.Outcome.{IsOutcomeOf}
use Rattle.dsm_core.specs.run_order.OwnRun.{Stamped, StandsForOwnRun, run_of}
use Rattle.dsm_core.specs.rewriting_law.Bounds.{RunsRewritten}
use Rattle.dsm_core.specs.CoreParts.{work_in, work_of, core_of, outcome_of}
use Rattle.timed_sim.specs.declared.costs.Costs.{Costs}
use Rattle.timed_sim.specs.declared.counting.StepCount.{StepCount}
use Rattle.timed_sim.specs.declared.run.Timed.{Timed}
use Rattle.timed_sim.specs.Clock.{IsOutcomeByClock, clock_of, opening_times, total_spent}
use Rattle.timed_sim.specs.Stored.{AreWithin, HasEnded, moment_of, plan_in, times_in}
use Rattle.timed_sim.proofs.Made.{opening_within, plan_kept, within_kept, within_more, within_same}
use Rattle.timed_sim.proofs.Parts.{part}
use Rattle.timed_sim.proofs.Running.{all_ok, ends_within, not_so_long, outcome_by_clock, sums, way_all, way_first, way_kept, way_of}
use Rattle.timed_sim.proofs.run.simulate_by_clock.Goals as goal

pub loop-turn-init : goal.loop-turn-init
loop-turn-init c =
    let r = c.in_ok-run.run' in
    let made = c.in_ok-run.ensures in
    let n = r.core.layout.nodes in
    let none = made.none in
    record {
      ready = made.ready;
      work = made.work;
      costs = made.costs;
      plan = made.plan;
      within = within_same n (2 ^ 26 * 0) (times_in r) opening_times made.times
          (within_more n 0 (2 ^ 26 * 0) opening_times (omega arith) (opening_within n));
      few = omega (arith, none);
      way = way_first r.costs (work_of r.core) (plan_in r) (moment_of r) made.opening made.times none;
    }

pub loop-turn-preserved : goal.loop-turn-preserved
loop-turn-preserved c =
    let l = c.loop-turn in
    let r = l.run in
    let q = c.make_next.new.self in
    let m = c.in_ok-make_next.ensures in
    let work = work_of r.core in
    let n = r.core.layout.nodes in
    let runs = subst RunsRewritten (sym l.invariant.work) c.requires.rewritten in
    let made = m.made c.if-not-branch.false in
    let more = made.few in
    let few = l.invariant.few in
    record {
      ready = m.ready;
      work = m.work ∙ l.invariant.work;
      costs = m.costs ∙ l.invariant.costs;
      plan = m.plan ∙ l.invariant.plan;
      within = subst (λ (w : Work). AreWithin w.layout.nodes (2 ^ 26 * (l._turn + 1)) (times_in q)) (sym m.work)
          (within_more n (2 ^ 26 * l._turn + 2 ^ 26) (2 ^ 26 * (l._turn + 1)) (times_in q) (omega arith)
          (made.within (λ b low. c.layout_law.ensures.few work.layout b runs.valid low) (2 ^ 26 * l._turn)
          l.invariant.within));
      few = omega (arith, more, few);
      way = way_of r.costs q.costs work (work_of q.core) (plan_in r) (plan_in q) (l._turn + 1) (moment_of q)
          m.costs m.work m.plan
          (way_all r.costs work (plan_in r) l._turn (moment_of r) (moment_of q) l.invariant.way made);
    }

pub make_next-requires-clause-within : goal.make_next-requires-clause-within
make_next-requires-clause-within c =
    let l = c.loop-turn in
    let turns = c.loop-turn-test.true in
    within_more l.run.core.layout.nodes (2 ^ 26 * l._turn) (2 ^ 100) (times_in l.run)
    (omega (arith, turns)) l.invariant.within

pub unreachable-requires : goal.unreachable-requires
unreachable-requires c =
    let l = c.loop-turn in
    let r = l.run in
    let work = work_of r.core in
    let runs = subst RunsRewritten (sym l.invariant.work) c.requires.rewritten in
    not_so_long r.costs work (plan_in r) l._turn (moment_of r) runs c.loop-turn-test.false
    (λ events run. c.progress_law.ensures.short work runs.plan events runs.accepted runs.valid runs.laid_over runs.rewriting runs.some run)
    l.invariant.way

pub timed-requires-clause-within : goal.timed-requires-clause-within
timed-requires-clause-within c =
    let l = c.loop-turn in
    let r = l.run in
    let q = c.make_next.new.self in
    let turns = c.loop-turn-test.true in
    let kept = c.in_ok-make_next.ensures.kept c.if-not-branch.true in
    within_more q.core.layout.nodes (2 ^ 26 * l._turn) (2 ^ 127) (times_in q) (omega (arith, turns))
    (within_kept r q (2 ^ 26 * l._turn) kept l.invariant.within)

pub timed-requires-clause-over : goal.timed-requires-clause-over
timed-requires-clause-over c =
    let r = c.loop-turn.run in
    let q = c.make_next.new.self in
    let kept = c.in_ok-make_next.ensures.kept c.if-not-branch.true in
    let over = c.in_ok-make_next.ensures.over c.if-not-branch.true in
    subst (λ (w : Work). IsOver w (core_of q.core)) (sym kept.work)
    (subst (λ (z : Core). IsOver (work_of r.core) z) (sym kept.core) over)

pub returns-then-not-branch-clause-outcome : goal.returns-then-not-branch-clause-outcome
returns-then-not-branch-clause-outcome c =
    let l = c.loop-turn in
    let r = l.run in
    let q = c.make_next.new.self in
    let work = work_of q.core in
    let plan = plan_in q in
    let kept = c.in_ok-make_next.ensures.kept c.if-not-branch.true in
    let over : IsOver work (core_of q.core) =
    subst (λ (w : Work). IsOver w (core_of q.core)) (sym kept.work)
    (subst (λ (z : Core). IsOver (work_of r.core) z) (sym kept.core)
    (c.in_ok-make_next.ensures.over c.if-not-branch.true)) in
    let way = way_kept r q l._turn kept l.invariant.way in
    subst (λ (w : Work). IfOk c.timed.result (λ (t : Timed). IsOutcomeByClock w c.args.plan.now c.args.costs.now (outcome_of t.outcome) t.spent.items t.time t.steps))
    (kept.work ∙ l.invariant.work)
    (subst (λ (ps : List PlanEntry). IfOk c.timed.result (λ (t : Timed). IsOutcomeByClock work ps c.args.costs.now (outcome_of t.outcome) t.spent.items t.time t.steps))
    (plan_kept r q kept ∙ l.invariant.plan)
    (subst (λ (k : Costs). IfOk c.timed.result (λ (t : Timed). IsOutcomeByClock work plan k (outcome_of t.outcome) t.spent.items t.time t.steps)) (kept.costs ∙ l.invariant.costs)
    (all_ok c.timed.result
    (λ (t : Timed). (own : List Stamped) × StandsForOwnRun work (core_of q.core) own × IsOutcomeOf work (run_of own) (outcome_of t.outcome))
    (λ (t : Timed). HasEnded q.core.layout.nodes (times_in q) t.spent.items t.time)
    (λ (t : Timed). t.steps ≡ q.count.steps)
    (λ (t : Timed). IsOutcomeByClock work plan q.costs (outcome_of t.outcome) t.spent.items t.time t.steps)
    (λ t given ended steps. outcome_by_clock q.costs work plan l._turn (moment_of q) (outcome_of t.outcome) t.spent.items t.time t.steps
    way over given ended steps)
    c.timed.ensures.outcome c.timed.ensures.times c.timed.ensures.steps)))

pub returns-then-not-branch-clause-sums : goal.returns-then-not-branch-clause-sums
returns-then-not-branch-clause-sums c =
    let q = c.make_next.new.self in
    IfOk-weaker c.timed.result
    (λ (t : Timed). HasEnded q.core.layout.nodes (times_in q) t.spent.items t.time)
    (λ (t : Timed). All (λ s. clock_of s ≡ t.time) t.spent.items)
    (λ t ended. sums q.core.layout.nodes (times_in q) t.spent.items t.time ended)
    c.timed.ensures.times

pub returns-then-not-branch-clause-part : goal.returns-then-not-branch-clause-part
returns-then-not-branch-clause-part c =
    let work = work_in c.args.work.now in
    let plan = c.args.plan.now in
    let costs = c.args.costs.now in
    IfOk-weaker c.timed.result
    (λ (t : Timed). IsOutcomeByClock work plan costs (outcome_of t.outcome) t.spent.items t.time t.steps)
    (λ (t : Timed). t.steps ≤ (total_spent t.spent.items).words)
    (λ t is. part work plan costs (outcome_of t.outcome) t.spent.items t.time t.steps is)
    (returns-then-not-branch-clause-outcome c)

pub returns-then-not-branch-clause-most : goal.returns-then-not-branch-clause-most
returns-then-not-branch-clause-most c =
    let l = c.loop-turn in
    let r = l.run in
    let q = c.make_next.new.self in
    let kept = c.in_ok-make_next.ensures.kept c.if-not-branch.true in
    let within = within_kept r q (2 ^ 26 * l._turn) kept l.invariant.within in
    let few : l._turn ≤ 2 ^ 64 = let lt = c.loop-turn-test.true in omega (arith, lt) in
    IfOk-weaker c.timed.result
    (λ (t : Timed). HasEnded q.core.layout.nodes (times_in q) t.spent.items t.time)
    (λ (t : Timed). t.time ≤ 2 ^ 100)
    (λ t ended. ends_within q.core.layout.nodes l._turn (times_in q) t.spent.items t.time within few ended)
    c.timed.ensures.times

pub returns-then-not-branch-clause-few : goal.returns-then-not-branch-clause-few
returns-then-not-branch-clause-few c =
    let l = c.loop-turn in
    let r = l.run in
    let q = c.make_next.new.self in
    let kept = c.in_ok-make_next.ensures.kept c.if-not-branch.true in
    let same : q.count.steps ≡ r.count.steps = ap (λ (s : StepCount). s.steps) kept.count in
    let few = l.invariant.few in
    let turns = c.loop-turn-test.true in
    IfOk-weaker c.timed.result (λ (t : Timed). t.steps ≡ q.count.steps)
    (λ (t : Timed). t.steps ≤ 2 ^ 100) (λ t steps. omega (arith, steps, same, few, turns))
    c.timed.ensures.steps
