-- The event at the place that the order chooses is the one that it picks.
use Rattle.std.proofs.Common.{◌<◌, sym, ap, ◌∙◌, subst, refl, arith}
use Rattle.random_order.specs.Orders.{following}
use Rattle.dsm_core.specs.node_model.Node.{Work}
use Rattle.dsm_core.specs.node_model.Core.{Core, May}
use Rattle.dsm_core.specs.CoreParts.{work_of, core_of, event_of}
use Rattle.shared_sim.specs.ByOrder.{choices}
use Rattle.shared_sim.specs.Turns.{maker}
use Rattle.shared_sim.proofs.Rows.{tells_after, shape_kept}
use Rattle.shared_sim.proofs.Turns.{picked_at, picked_may, turn_leads, few_kept, maker_low}
use Rattle.shared_sim.proofs.by_order.OrderedRun.turn.Goals as goal

pub next-place-requires-clause-few : goal.next-place-requires-clause-few
next-place-requires-clause-few c = omega (arith, c.requires.ready.lists.few)

pub at-event-requires-clause-place : goal.at-event-requires-clause-place
at-event-requires-clause-place c =
    let r = c.args.self.now in
    omega (arith, c.next-place.ensures.among, c.requires.ready.lists.count)

pub exec_silent-requires-clause-may : goal.exec_silent-requires-clause-may
exec_silent-requires-clause-may c =
    let r = c.args.self.now in
    let e = event_of c.at-event.result in
    picked_may (work_of r.core) (core_of r.core) (following r.order) e
    (picked_at (choices (work_of r.core) (core_of r.core)) c.next-place.result r.listing.count (following r.order) e
    c.requires.ready.lists.count c.next-place.ensures.chooses c.at-event.ensures.picked)

pub returns-then-exec_silent-clause-leads : goal.returns-then-exec_silent-clause-leads
returns-then-exec_silent-clause-leads c =
    let r = c.args.self.now in
    let n = c.exec_silent.new.self in
    let e = event_of c.at-event.result in
    let picked = picked_at (choices (work_of r.core) (core_of r.core)) c.next-place.result r.listing.count (following r.order) e
    c.requires.ready.lists.count c.next-place.ensures.chooses c.at-event.ensures.picked in
    turn_leads (work_of r.core) (work_of r.core) r.order n.order (core_of r.core) (core_of r.core) (core_of n.core) e
    refl refl (c.exec_silent.ensures.order ∙ c.next-place.ensures.goes_on) picked (c.exec_silent.ensures.event c.if-exec_silent.true)

pub step-requires : goal.step-requires
step-requires c =
    let r = c.args.self.now in
    let n = c.exec_silent.new.self in
    let e = event_of c.at-event.result in
    let picked = picked_at (choices (work_of r.core) (core_of r.core)) c.next-place.result r.listing.count (following r.order) e
    c.requires.ready.lists.count c.next-place.ensures.chooses c.at-event.ensures.picked in
    let may = picked_may (work_of r.core) (core_of r.core) (following r.order) e picked in
    record {
      enabled = subst (λ (w : Work). May w (core_of n.core) e) (sym c.exec_silent.ensures.work)
          (subst (λ (z : Core). May (work_of r.core) z e) (sym (c.exec_silent.ensures.kept c.if-exec_silent.false)) may);
    }

pub list_after-requires : goal.list_after-requires
list_after-requires c =
    let r = c.args.self.now in
    let n = c.exec_silent.new.self in
    let q = c.step.new.self in
    let e = event_of c.at-event.result in
    let picked = picked_at (choices (work_of r.core) (core_of r.core)) c.next-place.result r.listing.count (following r.order) e
    c.requires.ready.lists.count c.next-place.ensures.chooses c.at-event.ensures.picked in
    let may = picked_may (work_of r.core) (core_of r.core) (following r.order) e picked in
    let low = maker_low (work_of r.core) (core_of r.core) e may in
    let made : maker e < n.core.layout.nodes = subst (λ (w : Work). maker e < w.layout.nodes) (sym c.exec_silent.ensures.work) low in
    let ready = c.exec_silent.ensures.ready in
    let s = c.in_ok-step.ensures in
    let is = c.node_of.ensures in
    record {
      few = few_kept n.core q s.work ready.few;
      node = subst (λ k. k < q.layout.nodes) (sym is)
          (subst (λ (w : Work). maker e < w.layout.nodes) (sym s.work) made);
      shape = shape_kept n.core q n.listing s.work ready.lists.shape;
      others = λ i below apart none.
          let here : i < n.core.layout.nodes = subst (λ (w : Work). i < w.layout.nodes) s.work below in
          tells_after n.core q n.listing e i s.work here made s.event (λ same. apart (same ∙ sym is))
          (ap (λ x. (core_of q).list x i) (sym is) ∙ none) (ready.lists.tells i here);
    }

pub returns-clause-leads : goal.returns-clause-leads
returns-clause-leads c =
    let r = c.args.self.now in
    let n = c.exec_silent.new.self in
    let e = event_of c.at-event.result in
    let picked = picked_at (choices (work_of r.core) (core_of r.core)) c.next-place.result r.listing.count (following r.order) e
    c.requires.ready.lists.count c.next-place.ensures.chooses c.at-event.ensures.picked in
    turn_leads (work_of r.core) (work_of n.core) r.order n.order (core_of r.core) (core_of n.core) (core_of c.step.new.self) e
    c.exec_silent.ensures.work (c.exec_silent.ensures.kept c.if-exec_silent.false)
    (c.exec_silent.ensures.order ∙ c.next-place.ensures.goes_on) picked c.in_ok-step.ensures.event

pub returns-clause-ready : goal.returns-clause-ready
returns-clause-ready c =
    let n = c.exec_silent.new.self in
    let q = c.step.new.self in
    let s = c.in_ok-step.ensures in
    record {
      lists = c.list_after.ensures.lists;
      few = few_kept n.core q s.work c.exec_silent.ensures.ready.few;
      undo_logs = c.exec_silent.ensures.ready.undo_logs ∙ sym (ap (λ (w : Work). w.layout.nodes) s.work);
    }
