use Rattle.std.proofs.Common.{List, IfOk, subst}
use Rattle.node_model.specs.Node.{Work}
use Rattle.templates.specs.declared.plans.PlanEntry.{PlanEntry}
use Rattle.dsm_core.specs.CoreParts.{outcome_of}
use Rattle.timed_sim.specs.declared.costs.Costs.{Costs}
use Rattle.timed_sim.specs.declared.run.Timed.{Timed}
use Rattle.timed_sim.specs.Clock.{IsOutcomeByClock}
use Rattle.prepared_run.specs.Ready.{work_for}
use Rattle.views.proofs.time.run_by_clock.Goals as goal

-- the outcome of a run by a clock
abbrev is_outcome : Work → List PlanEntry → Costs → Timed → Type 0
is_outcome work plan costs t =
    IsOutcomeByClock work plan costs (outcome_of t.outcome) t.spent.items t.time t.steps

pub returns-clause-outcome : goal.returns-clause-outcome
returns-clause-outcome c =
    let work = work_for c.args.prepared.now in
    let plan = c.args.prepared.now.rewritten.plan in
    let costs = c.costs_of-costs.result in
    let r = c.simulate_by_clock.result in
    subst (λ k. IfOk r (is_outcome work plan k)) c.costs_of-costs.ensures.value
    (subst (λ p. IfOk r (is_outcome work p costs)) c.plan-plan.ensures.value
    (subst (λ w. IfOk r (is_outcome w c.plan-plan.result.now costs)) c.work.ensures.value
    c.simulate_by_clock.ensures.outcome))
