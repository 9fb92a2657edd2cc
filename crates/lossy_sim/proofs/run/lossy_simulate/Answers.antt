-- The run ends, and then no message is under way.
use Rattle.std.proofs.Common.{◌≡◌, ◌^◌, true, false, List, sym, ◌∙◌, subst, arith}
use Rattle.node_model.specs.Node.{Work}
use Rattle.node_model.specs.Core.{opening_core, after, IsOver}
use Rattle.node_model.specs.Outcome.{IsOutcomeOf}
use Rattle.dsm_core.specs.run_order.OwnRun.{Stamped, StandsForOwnRun, run_of}
use Rattle.dsm_core.specs.CoreParts.{CoreParts, work_of, work_in, core_of, outcome_of}
use Rattle.dsm_core.proofs.CoreSteps.{if_ok}
use Rattle.dsm_core.proofs.Promised.{stands_alike}
use Rattle.lossy_sim.specs.Stored.{HaveOfferedFew, HaveSentFewer}
use Rattle.lossy_sim.specs.WithLoss.{AreAllOver, ordinary}
use Rattle.lossy_sim.specs.Runs.{state_in, IsInRange, HasTurned}
use Rattle.lossy_sim.proofs.Ending.{few_events}
use Rattle.lossy_sim.proofs.Running.{way_first, way_more, way_short, way_few, run_in_range, end_alike, way_outcome}
use Rattle.lossy_sim.proofs.run.lossy_simulate.Goals as goal

pub loop-turn-init : goal.loop-turn-init
loop-turn-init c =
    let made = c.in_ok-run.ensures in
    record {
      ready = made.ready;
      work = made.work;
      way = way_first (work_in c.args.work.now) c.args.order c.args.loss c.in_ok-run.run' made.opening;
    }

pub turn-requires-clause-range : goal.turn-requires-clause-range
turn-requires-clause-range c =
    let l = c.loop-turn in
    let r = l.run in
    let work = work_in c.args.work.now in
    let way = l.invariant.way in
    let events = ordinary way.turns in
    let core = after work (opening_core work) events in
    let is_run = c.loss_law.ensures.core_run work c.args.order c.args.loss way.turns (state_in work r)
    way.follows in
    let few = few_events work events c.progress_law.ensures.short c.requires.rewritten is_run in
    let range : IsInRange work r = record {
      core = core;
      stand = c.loss_law.ensures.stands work c.args.order c.args.loss way.turns (state_in work r) way.follows;
      range = run_in_range work events core few (λ i lt. c.stamp_law.ensures.few work events i is_run lt)
          (λ j i jn lt. c.stamp_law.ensures.wires work events j i is_run jn lt);
    } in
    subst (λ (w : Work). IsInRange w r) (sym l.invariant.work) range

pub turn-requires-clause-few : goal.turn-requires-clause-few
turn-requires-clause-few c =
    let l = c.loop-turn in
    let r = l.run in
    let work = work_in c.args.work.now in
    let way = l.invariant.way in
    let short = way_short work c.args.order c.args.loss l.turn r way c.requires.rewritten
    (c.loss_law.ensures.ends work c.args.order c.args.loss way.turns (state_in work r) c.requires.rewritten
    way.follows) in
    subst (λ (w : Work). HaveSentFewer (2 ^ 62) r.links.items w.layout.nodes) (sym l.invariant.work)
    (way_few work c.args.order c.args.loss l.turn r way short)

pub loop-turn-preserved : goal.loop-turn-preserved
loop-turn-preserved c =
    let l = c.loop-turn in
    let r = l.run in
    let q = c.turn.new.self in
    let t = c.in_ok-turn.ensures in
    let work = work_in c.args.work.now in
    let same = l.invariant.work in
    record {
      ready = t.ready;
      work = t.work ∙ same;
      way = way_more work c.args.order c.args.loss l.turn r q l.invariant.way
          (λ all. let bad : true ≡ false = sym (c.is_over.ensures.value.1
          (subst (λ (w : Work). AreAllOver w (state_in w r)) (sym same) all)) ∙ c.if-is_over.false in cc)
          (subst (λ (w : Work). HasTurned w l.turn (state_in w r) (state_in w q)) same t.turn)
          (subst (λ (w : Work). HaveOfferedFew 18 r.links.items q.links.items w.layout.nodes) same t.few);
    }

pub unreachable-requires : goal.unreachable-requires
unreachable-requires c =
    let l = c.loop-turn in
    let work = work_in c.args.work.now in
    let way = l.invariant.way in
    let short = way_short work c.args.order c.args.loss l.turn l.run way c.requires.rewritten
    (c.loss_law.ensures.ends work c.args.order c.args.loss way.turns (state_in work l.run) c.requires.rewritten
    way.follows) in
    absurd (omega (arith, short, c.loop-turn-test.false))

pub put_together-requires-clause-own_run : goal.put_together-requires-clause-own_run
put_together-requires-clause-own_run c =
    let l = c.loop-turn in
    let r = l.run in
    let work = work_in c.args.work.now in
    let same = l.invariant.work in
    let way = l.invariant.way in
    let events = ordinary way.turns in
    let core = after work (opening_core work) events in
    let is_run = c.loss_law.ensures.core_run work c.args.order c.args.loss way.turns (state_in work r)
    way.follows in
    let stand = c.loss_law.ensures.stands work c.args.order c.args.loss way.turns (state_in work r)
    way.follows in
    let over = subst (λ (w : Work). AreAllOver w (state_in w r)) same (c.is_over.ensures.value.0 c.if-is_over.true) in
    let alike = end_alike work c.args.order c.args.loss l.turn r way same l.invariant.ready c.requires.rewritten
    c.progress_law.ensures.over is_run stand over in
    let own = c.stamp_law.ensures.own_run work events is_run in (
      own.0,
      subst (λ (w : Work). StandsForOwnRun w (core_of r.parts) own.0) (sym same)
          (stands_alike work (core_of r.parts) core own.0 alike own.1),
    )

pub outcome-requires : goal.outcome-requires
outcome-requires c = record {
  over = subst (λ (p : CoreParts). IsOver (work_of p) (core_of p)) (sym c.put_together.ensures.core)
      (c.is_over.ensures.value.0 c.if-is_over.true);
}

pub returns-then-is_over : goal.returns-then-is_over
returns-then-is_over c =
    let l = c.loop-turn in
    let r = l.run in
    let work = work_in c.args.work.now in
    let same = l.invariant.work in
    let way = l.invariant.way in
    let is_run = c.loss_law.ensures.core_run work c.args.order c.args.loss way.turns (state_in work r)
    way.follows in
    let stand = c.loss_law.ensures.stands work c.args.order c.args.loss way.turns (state_in work r)
    way.follows in
    let over = subst (λ (w : Work). AreAllOver w (state_in w r)) same (c.is_over.ensures.value.0 c.if-is_over.true) in
    let alike = end_alike work c.args.order c.args.loss l.turn r way same l.invariant.ready c.requires.rewritten
    c.progress_law.ensures.over is_run stand over in
    record {
      outcome = if_ok c.outcome-then-is_over.result
          (λ o given. way_outcome work c.args.order c.args.loss l.turn r (core_of r.parts) (outcome_of o) way over
          is_run stand alike
          (subst (λ (w : Work). (own : List Stamped) × StandsForOwnRun w (core_of r.parts) own
          × IsOutcomeOf w (run_of own) (outcome_of o)) same
          (subst (λ (p : CoreParts). (own : List Stamped) × StandsForOwnRun (work_of p) (core_of p) own
          × IsOutcomeOf (work_of p) (run_of own) (outcome_of o)) c.put_together.ensures.core given)))
          c.outcome-then-is_over.ensures.outcome;
    }
