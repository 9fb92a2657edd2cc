-- A word by its micro-op leaves the list as it was, where its processor stands as before.
use Rattle.std.proofs.Common.{◌≡◌, ◌<◌, ◌++◌, ◌∷◌, ◌∙◌, [], List, map, sym, subst}
use Rattle.lane_model.specs.Nodes.{LaneWork, lane_of, node_of, processors}
use Rattle.lane_model.specs.Core.{Exec, LaneCore, LaneEvent, May, standing_of}
use Rattle.smp_sim.specs.CoreParts.{IsRunTo, core_of, event_of, work_of}
use Rattle.smp_sim.specs.ByOrder.{choices}
use Rattle.smp_sim.proofs.CoreSteps.{on_ok}
use Rattle.smp_sim.proofs.Promised.{run_same}
use Rattle.smp_sim.proofs.Silent.{standing_choices}
use Rattle.smp_sim.proofs.by_order.exec_by_mail.Goals as goal

pub standing-before-requires : goal.standing-before-requires
standing-before-requires c = record { processor = c.requires.enabled.0 }

pub standing-requires : goal.standing-requires
standing-requires c = record {
  processor = subst (λ (v : LaneWork). c.args.processor < processors v) (sym c.exec_silent.ensures.work)
      c.requires.enabled.0;
}

pub step-requires-clause-enabled : goal.step-requires-clause-enabled
step-requires-clause-enabled c =
    let p = c.args.core.now in
    let q = c.exec_silent.new.self in
    let e = c.exec_silent.ensures in
    let event = Exec c.args.processor in
    subst (λ (v : LaneWork). May v (core_of q) event) (sym e.work)
    (subst (λ (z : LaneCore). May (work_of p) z event) (sym (e.kept c.if-not-exec_silent.true))
    c.requires.enabled)

pub returns-then-not-exec_silent-clause-run : goal.returns-then-not-exec_silent-clause-run
returns-then-not-exec_silent-clause-run c =
    let p = c.args.core.now in
    let q = c.exec_silent.new.self in
    let r = c.step.new.core in
    let e = c.exec_silent.ensures in
    on_ok c.step.result
    (λ (more : (run : List LaneEvent) → IsRunTo run q → IsRunTo (run ++ Exec c.args.processor ∷ []) r) run to.
    more run (run_same p q e.work (e.kept c.if-not-exec_silent.true) e.output run to))
    c.step.ensures.run

pub returns-clause-run : goal.returns-clause-run
returns-clause-run c = c.exec_silent.ensures.run c.if-not-exec_silent.false

pub returns-then-is_same-clause-listed : goal.returns-then-is_same-clause-listed
returns-then-is_same-clause-listed c =
    let p = c.args.core.now in
    let q = c.exec_silent.new.self in
    let w = work_of p in
    let r = c.args.processor in
    let e = c.exec_silent.ensures in
    let served = c.if-not-exec_silent.false in
    let stands : standing_of w ((core_of q).nodes (node_of w r)) (lane_of w r)
    ≡ standing_of w ((core_of p).nodes (node_of w r)) (lane_of w r) =
    subst (λ (v : LaneWork). standing_of v ((core_of q).nodes (node_of v r)) (lane_of v r)
    ≡ standing_of w ((core_of p).nodes (node_of w r)) (lane_of w r)) e.work
    (sym c.standing.ensures.value ∙ c.is_same.ensures c.if-is_same.true ∙ c.standing-before.ensures.value) in
    subst (λ (v : LaneWork). map event_of c.args.events.now.items ≡ choices v (core_of q)) (sym e.work)
    (c.requires.listed
    ∙ sym (standing_choices w (core_of p) r e.some c.requires.enabled (e.silent served) (core_of q)
    (e.event served) stands))
