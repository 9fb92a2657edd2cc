-- The turns before the event that is picked, and that event.
use Rattle.std.proofs.Common.{◌∙◌, ◌++◌, ◌∷◌, [], List, ap, map, sym}
use Rattle.lane_model.specs.Core.{LaneEvent}
use Rattle.smp_sim.specs.CoreParts.{IsRunTo, core_of, event_of, work_of}
use Rattle.smp_sim.proofs.CoreSteps.{on_ok}
use Rattle.smp_sim.proofs.Turns.{leads_then, picked_may}
use Rattle.smp_sim.proofs.by_order.turns.Goals as goal

pub run_silent-requires-clause-listed : goal.run_silent-requires-clause-listed
run_silent-requires-clause-listed c = ap (map event_of) c.deref.ensures.value ∙ c.requires.listed

pub make-requires-clause-enabled : goal.make-requires-clause-enabled
make-requires-clause-enabled c =
    let q = c.run_silent.new.self in
    picked_may (work_of q) (core_of q) c.run_silent.new.order (event_of c.in-Some.event)
    c.in-Some.ensures.leads.picked

pub make-requires-clause-listed : goal.make-requires-clause-listed
make-requires-clause-listed c =
    ap (map event_of) (sym c.deref.ensures.value) ∙ c.run_silent.ensures.listed

pub returns-in-Some-clause-leads : goal.returns-in-Some-clause-leads
returns-in-Some-clause-leads c =
    let p = c.args.core.now in
    let q = c.run_silent.new.self in
    let r = c.make.new.core in
    let e = event_of c.in-Some.event in
    on_ok c.make.result
    (λ (more : (run : List LaneEvent) → IsRunTo run q → IsRunTo (run ++ e ∷ []) r) first turns to.
    leads_then first turns c.args.order.now c.run_silent.new.order p q r e c.run_silent.ensures.some
    c.make.ensures.work c.in-Some.ensures.leads more to) c.make.ensures.run

pub returns-in-None-clause-listed : goal.returns-in-None-clause-listed
returns-in-None-clause-listed c =
    ap (map event_of) (sym c.deref.ensures.value) ∙ c.run_silent.ensures.listed
