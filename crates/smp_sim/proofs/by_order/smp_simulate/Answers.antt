-- Turn by turn the order picks an event, until nothing is allowed.
use Rattle.std.proofs.Common.{◌≡◌, ◌≤◌, sym, ◌∙◌, subst, List, length, IfOk, arith}
use Rattle.std.proofs.lemmas.Result.{IfOk-weaker}
use Rattle.lane_model.specs.Nodes.{LaneWork}
use Rattle.lane_model.specs.Core.{LaneEvent}
use Rattle.lane_model.specs.Outcome.{IsLaneOutcomeOf}
use Rattle.dsm_core.specs.declared.outcome.Outcome.{Outcome}
use Rattle.dsm_core.specs.CoreParts.{outcome_of, work_in}
use Rattle.smp_sim.specs.CoreParts.{IsRunTo, core_of, work_of, work_with}
use Rattle.smp_sim.specs.ByOrder.{IsLaneOutcomeByOrder}
use Rattle.smp_sim.proofs.Choices.{over_without}
use Rattle.smp_sim.proofs.Turns.{none_listed, not_so_long, outcome_by_order}
use Rattle.smp_sim.proofs.by_order.smp_simulate.Goals as goal

pub outcome-requires : goal.outcome-requires
outcome-requires c =
    let l = c.loop-turn in
    let p = l.core in
    let none : length l.events.items ≡ 0 = grind (arith, c.is_empty.ensures, c.if-is_empty.true, l.events.ok) in
    record {
      over = over_without (work_of p) (core_of p)
          (none_listed l.events.items _ l.invariant.listed none) c.promises.ensures.goes_on;
    }

pub returns-then-is_empty-clause-outcome : goal.returns-then-is_empty-clause-outcome
returns-then-is_empty-clause-outcome c =
    let l = c.loop-turn in
    let p = l.core in
    let w = work_of p in
    let zero : length l.events.items ≡ 0 = grind (arith, c.is_empty.ensures, c.if-is_empty.true, l.events.ok) in
    let none = none_listed l.events.items _ l.invariant.listed zero in
    let over = over_without w (core_of p) none c.promises.ensures.goes_on in
    subst (λ (v : LaneWork). IfOk c.outcome.result
    (λ (o : Outcome). IsLaneOutcomeByOrder v c.args.order (outcome_of o)))
    l.invariant.work (IfOk-weaker c.outcome.result
    (λ (o : Outcome). (run : List LaneEvent) → IsRunTo run p → IsLaneOutcomeOf w run (outcome_of o))
    (λ (o : Outcome). IsLaneOutcomeByOrder w c.args.order (outcome_of o))
    (λ o given. outcome_by_order c.args.order l._turn l.order p (outcome_of o) c.promises.ensures.some
    l.invariant.leads none over given) c.outcome.ensures.outcome)

pub returns-then-is_empty-clause-interleaves : goal.returns-then-is_empty-clause-interleaves
returns-then-is_empty-clause-interleaves c = λ plan events runs run.
    c.lane_law.ensures.interleaves (work_with (work_in c.args.work.now) c.args.lanes) plan events runs run.is_run

pub returns-in_err-events-clause-interleaves : goal.returns-in_err-events-clause-interleaves
returns-in_err-events-clause-interleaves c = λ plan events runs run.
    c.lane_law.ensures.interleaves (work_with (work_in c.args.work.now) c.args.lanes) plan events runs run.is_run

pub returns-in_err-turns-clause-interleaves : goal.returns-in_err-turns-clause-interleaves
returns-in_err-turns-clause-interleaves c = λ plan events runs run.
    c.lane_law.ensures.interleaves (work_with (work_in c.args.work.now) c.args.lanes) plan events runs run.is_run

pub loop-turn-preserved : goal.loop-turn-preserved
loop-turn-preserved c =
    let l = c.loop-turn in
    let made = c.in_ok-turns.ensures in
    record {
      work = made.work ∙ l.invariant.work;
      room = subst (λ k. 272 ≤ k) (sym made.room) l.invariant.room;
      listed = made.listed;
      leads = made.leads c.args.order l._turn l.invariant.leads;
    }

pub unreachable-requires : goal.unreachable-requires
unreachable-requires c =
    let l = c.loop-turn in
    let is = c.promises-2.ensures in
    not_so_long c.args.order l._turn l.order l.core c.loop-turn-test.false is.some is.few is.rewritten.few is.short
    l.invariant.leads
