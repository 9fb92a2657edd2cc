use Rattle.std.proofs.Common.{◌+◌, sym, subst, ◌∙◌, List, IfOk}
use Rattle.std.proofs.lemmas.Result.{IfOk-weaker}
use Rattle.dsm_core.specs.node_model.Node.{Work}
use Rattle.dsm_core.specs.node_model.Core.{Core, opening_core}
use Rattle.dsm_core.specs.node_model.Outcome.{IsOutcomeOf}
use Rattle.dsm_core.specs.run_order.OwnRun.{Stamped, StandsForOwnRun, run_of}
use Rattle.dsm_core.specs.rewriting_law.Bounds.{RunsRewritten}
use Rattle.dsm_core.specs.declared.outcome.Outcome.{Outcome}
use Rattle.dsm_core.specs.CoreParts.{work_of, core_of, outcome_of}
use Rattle.shared_sim.specs.ByOrder.{IsOutcomeByOrder}
use Rattle.shared_sim.specs.Turns.{LeadsOn}
use Rattle.shared_sim.proofs.Turns.{leads_none, leads_also, not_so_long, outcome_by_order}
use Rattle.shared_sim.proofs.by_order.simulate.Goals as goal

pub loop-turn-init : goal.loop-turn-init
loop-turn-init c =
    let r = c.in_ok-run.run' in
    let made = c.in_ok-run.ensures in
    let o = opening_core (work_of r.core) in
    record {
      ready = made.ready;
      work = made.work;
      leads = subst (λ z. LeadsOn (work_of r.core) 0 c.args.order o z (core_of r.core)) (sym made.order)
          (subst (λ (z : Core). LeadsOn (work_of r.core) 0 c.args.order o c.args.order z) (sym made.opening)
          (leads_none (work_of r.core) c.args.order o));
    }

pub loop-turn-preserved : goal.loop-turn-preserved
loop-turn-preserved c =
    let l = c.loop-turn in
    let r = l.run in
    let n = c.turns.new.self in
    let t = c.in_ok-turns.ensures in
    let all = leads_also (work_of r.core) l._turn 1 c.args.order r.order n.order (opening_core (work_of r.core))
    (core_of r.core) (core_of n.core) l.invariant.leads t.leads in
    record {
      ready = t.ready;
      work = t.work ∙ l.invariant.work;
      leads = subst (λ (w : Work). LeadsOn w (l._turn + 1) c.args.order (opening_core w) n.order (core_of n.core)) (sym t.work) all;
    }

pub unreachable-requires : goal.unreachable-requires
unreachable-requires c =
    let l = c.loop-turn in
    let r = l.run in
    let work = work_of r.core in
    let runs = subst RunsRewritten (sym l.invariant.work) c.requires.rewritten in
    not_so_long work l._turn c.args.order r.order (core_of r.core) runs c.loop-turn-test.false
    (λ events run. c.progress_law.ensures.short work runs.plan events runs.accepted runs.valid runs.laid_over runs.rewriting runs.some run)
    l.invariant.leads

pub returns-then-is_over : goal.returns-then-is_over
returns-then-is_over c =
    let l = c.loop-turn in
    let r = l.run in
    let work = work_of r.core in
    let none = c.is_over.ensures.none c.if-is_over.true in
    let over = c.is_over.ensures.over c.if-is_over.true in
    record {
      outcome = subst (λ (w : Work). IfOk c.outcome.result (λ (o : Outcome). IsOutcomeByOrder w c.args.order (outcome_of o))) l.invariant.work
          (IfOk-weaker c.outcome.result
          (λ (o : Outcome). (own : List Stamped) × StandsForOwnRun work (core_of r.core) own × IsOutcomeOf work (run_of own) (outcome_of o))
          (λ (o : Outcome). IsOutcomeByOrder work c.args.order (outcome_of o))
          (λ o given. outcome_by_order work l._turn c.args.order r.order (core_of r.core) (outcome_of o) l.invariant.leads none over given)
          c.outcome.ensures.outcome);
    }
