-- The event at the place that the order chooses is the one that it picks.
use Rattle.std.proofs.Common.{refl, arith}
use Rattle.random_order.specs.Orders.{following}
use Rattle.dsm_core.specs.CoreParts.{work_of, event_of}
use Rattle.dsm_core.proofs.CoreSteps.{on_ok}
use Rattle.lossy_sim.proofs.Running.{event_picked, picked_make, make_there, event_made, event_ready, few_there}
use Rattle.lossy_sim.proofs.run.LossyRun.event.Goals as goal

pub make-requires-clause-allowed : goal.make-requires-clause-allowed
make-requires-clause-allowed c =
    let r = c.args.self.now in
    let work = work_of r.parts in
    let e = event_of c.index-event.result.now in
    let picked = event_picked work c.next-place.result _ c.index-event.result.now c.self.view_is c.requires.listed
    c.len.ensures c.next-place.ensures.chooses c.next-place.ensures.among c.index-event.ensures in
    make_there e c.self.view_is c.parts.view_is c.nodes-count.ensures.nodes
    (picked_make work r.parts.nodes r.links.items r.order r.losses c.requires.range.core (following r.order) e
    c.requires.ready.parts.count c.requires.range.stand c.requires.range.range picked)

pub returns-clause-ready : goal.returns-clause-ready
returns-clause-ready c = on_ok c.make.result
    (λ works. event_ready _ c.make.new.nodes.items c.self.view_is c.parts.view_is c.nodes-count.ensures.nodes refl refl
    c.requires.ready c.make.ensures.count c.make.ensures.links works) c.make.ensures.works

pub returns-clause-picked : goal.returns-clause-picked
returns-clause-picked c =
    let r = c.args.self.now in
    let work = work_of r.parts in
    let e = event_of c.index-event.result.now in
    let picked = event_picked work c.next-place.result _ c.index-event.result.now c.self.view_is c.requires.listed
    c.len.ensures c.next-place.ensures.chooses c.next-place.ensures.among c.index-event.ensures in
    on_ok c.make.result
    (λ made. event_made c.make.new.nodes.items c.make.new.links.items c.next-place.new.self e c.self.view_is
    c.parts.view_is c.nodes-count.ensures.nodes c.requires.ready c.next-place.ensures.goes_on picked made)
    c.make.ensures.event

pub returns-clause-few : goal.returns-clause-few
returns-clause-few c = on_ok c.make.result
    (λ f. few_there c.make.new.links.items 18 c.self.view_is c.nodes-count.ensures.nodes (omega arith) f)
    c.make.ensures.few
