-- Turn by turn the order picks an event, as long as it is a silent word.
use Rattle.std.proofs.Common.{arith, refl}
use Rattle.lane_machine.specs.SmpNodes.{lane_work}
use Rattle.smp_sim.specs.CoreParts.{event_of}
use Rattle.smp_sim.proofs.TurnsInUse.{ended_leads, ended_listed, goes_on_way, may_there, may_turn_there, on_the_way_first, put_back_core, stopped, stopped_listed}
use Rattle.smp_sim.proofs.runs.run_silent.Goals as goal

pub loop-turn-init : goal.loop-turn-init
loop-turn-init c = λ out is.
    on_the_way_first c.args.work.now c.args.lists.now c.args.nodes.now.items out c.args.events.now
    c.args.order.now _ refl is c.requires.listed

pub make_silent-requires : goal.make_silent-requires
make_silent-requires c =
    let l = c.loop-turn in
    let way = l.invariant c.requires.core.0 c.requires.core.1 in
    record {
      may = may_turn_there c.args.work.now c.args.lists.now c.args.nodes.now.items c.requires.core.0
          c.args.events.now l._turn c.args.order.now l.order l.nodes.items l.used way
          (event_of c.pick-event.result) c.pick-event.new.order c.pick-event.ensures.goes_on
          c.pick-event.ensures.picked;
    }

pub loop-turn-preserved : goal.loop-turn-preserved
loop-turn-preserved c = λ out is.
    let l = c.loop-turn in
    let w = c.args.work.now in
    let lists = c.args.lists.now in
    let start = c.args.nodes.now.items in
    let es = c.args.events.now in
    let first = c.args.order.now in
    let e = event_of c.pick-event.result in
    let next = c.pick-event.new.order in
    let follows = c.pick-event.ensures.goes_on in
    let picked = c.pick-event.ensures.picked in
    let done = c.make_silent.result in
    let xs = c.make_silent.new.nodes.items in
    let used = c.make_silent.new.used in
    let way = l.invariant out is in
    let may = may_there w lists start out es l._turn first l.order l.nodes.items l.used way e next follows picked in
    let t = c.make_silent.ensures.turned way.rests out way.at_rest way.core may in
    goes_on_way w lists start out es l._turn first l.order l.nodes.items l.used way e next follows picked done xs used t c.if-not-make_silent.false

pub put_back-requires-clause-few : goal.put_back-requires-clause-few
put_back-requires-clause-few c =
    let out = c.requires.core.0 in
    let l = c.loop-turn in
    let w = c.args.work.now in
    let lists = c.args.lists.now in
    let start = c.args.nodes.now.items in
    let es = c.args.events.now in
    let first = c.args.order.now in
    let e = event_of c.pick-event.result in
    let next = c.pick-event.new.order in
    let follows = c.pick-event.ensures.goes_on in
    let picked = c.pick-event.ensures.picked in
    let done = c.make_silent.result in
    let xs = c.make_silent.new.nodes.items in
    let used = c.make_silent.new.used in
    let way = l.invariant out c.requires.core.1 in
    let may = may_there w lists start out es l._turn first l.order l.nodes.items l.used way e next follows picked in
    let t = c.make_silent.ensures.turned way.rests out way.at_rest way.core may in
    let a = t.at_rest.count in
    let b = t.core.stored.count in
    let few = t.core.stored.queues.few in
    omega (arith, a, b, few)

pub put_back-requires-clause-rest : goal.put_back-requires-clause-rest
put_back-requires-clause-rest c =
    let out = c.requires.core.0 in
    let l = c.loop-turn in
    let w = c.args.work.now in
    let lists = c.args.lists.now in
    let start = c.args.nodes.now.items in
    let es = c.args.events.now in
    let first = c.args.order.now in
    let e = event_of c.pick-event.result in
    let next = c.pick-event.new.order in
    let follows = c.pick-event.ensures.goes_on in
    let picked = c.pick-event.ensures.picked in
    let done = c.make_silent.result in
    let xs = c.make_silent.new.nodes.items in
    let used = c.make_silent.new.used in
    let way = l.invariant out c.requires.core.1 in
    let may = may_there w lists start out es l._turn first l.order l.nodes.items l.used way e next follows picked in
    let t = c.make_silent.ensures.turned way.rests out way.at_rest way.core may in
    (lane_work w, t.rests, t.at_rest.count, t.core.stored.each, t.at_rest.each)

pub returns-then-not-make_silent-clause-core : goal.returns-then-not-make_silent-clause-core
returns-then-not-make_silent-clause-core c = λ out is.
    let l = c.loop-turn in
    let w = c.args.work.now in
    let lists = c.args.lists.now in
    let start = c.args.nodes.now.items in
    let es = c.args.events.now in
    let first = c.args.order.now in
    let e = event_of c.pick-event.result in
    let next = c.pick-event.new.order in
    let follows = c.pick-event.ensures.goes_on in
    let picked = c.pick-event.ensures.picked in
    let done = c.make_silent.result in
    let xs = c.make_silent.new.nodes.items in
    let used = c.make_silent.new.used in
    let way = l.invariant out is in
    let may = may_there w lists start out es l._turn first l.order l.nodes.items l.used way e next follows picked in
    let t = c.make_silent.ensures.turned way.rests out way.at_rest way.core may in
    put_back_core w lists t.rests c.put_back.new.nodes.items out
    (c.put_back.ensures.same t.rests t.at_rest.count t.at_rest.each) t.core

pub returns-then-not-make_silent-clause-listed : goal.returns-then-not-make_silent-clause-listed
returns-then-not-make_silent-clause-listed c =
    let out = c.requires.core.0 in
    let l = c.loop-turn in
    let w = c.args.work.now in
    let lists = c.args.lists.now in
    let start = c.args.nodes.now.items in
    let es = c.args.events.now in
    let first = c.args.order.now in
    let e = event_of c.pick-event.result in
    let next = c.pick-event.new.order in
    let follows = c.pick-event.ensures.goes_on in
    let picked = c.pick-event.ensures.picked in
    let done = c.make_silent.result in
    let xs = c.make_silent.new.nodes.items in
    let used = c.make_silent.new.used in
    let way = l.invariant out c.requires.core.1 in
    let may = may_there w lists start out es l._turn first l.order l.nodes.items l.used way e next follows picked in
    let t = c.make_silent.ensures.turned way.rests out way.at_rest way.core may in
    stopped_listed w lists start out es l._turn first l.order l.nodes.items l.used way e next follows picked done xs used t c.put_back.new.nodes.items
    (c.put_back.ensures.same t.rests t.at_rest.count t.at_rest.each) c.if-not-make_silent.true

pub returns-then-not-make_silent-clause-leads : goal.returns-then-not-make_silent-clause-leads
returns-then-not-make_silent-clause-leads c = λ out is.
    let l = c.loop-turn in
    let w = c.args.work.now in
    let lists = c.args.lists.now in
    let start = c.args.nodes.now.items in
    let es = c.args.events.now in
    let first = c.args.order.now in
    let e = event_of c.pick-event.result in
    let next = c.pick-event.new.order in
    let follows = c.pick-event.ensures.goes_on in
    let picked = c.pick-event.ensures.picked in
    let done = c.make_silent.result in
    let xs = c.make_silent.new.nodes.items in
    let used = c.make_silent.new.used in
    let way = l.invariant out is in
    let may = may_there w lists start out es l._turn first l.order l.nodes.items l.used way e next follows picked in
    let t = c.make_silent.ensures.turned way.rests out way.at_rest way.core may in
    stopped w lists start out es l._turn first l.order l.nodes.items l.used way e next follows picked done xs used t c.put_back.new.nodes.items
    (c.put_back.ensures.same t.rests t.at_rest.count t.at_rest.each) c.if-not-make_silent.true

-- after many turns

pub put_back-requires-2-clause-few : goal.put_back-requires-2-clause-few
put_back-requires-2-clause-few c =
    let way = c.loop-turn.invariant c.requires.core.0 c.requires.core.1 in
    let a = way.at_rest.count in
    let b = way.core.stored.count in
    let few = way.core.stored.queues.few in
    omega (arith, a, b, few)

pub put_back-requires-2-clause-rest : goal.put_back-requires-2-clause-rest
put_back-requires-2-clause-rest c =
    let way = c.loop-turn.invariant c.requires.core.0 c.requires.core.1 in
    (lane_work c.args.work.now, way.rests, way.at_rest.count, way.core.stored.each, way.at_rest.each)

pub returns-clause-core : goal.returns-clause-core
returns-clause-core c = λ out is.
    let l = c.loop-turn in
    let w = c.args.work.now in
    let lists = c.args.lists.now in
    let start = c.args.nodes.now.items in
    let es = c.args.events.now in
    let first = c.args.order.now in
    let way = l.invariant out is in
    put_back_core w lists way.rests c.put_back-2.new.nodes.items out
    (c.put_back-2.ensures.same way.rests way.at_rest.count way.at_rest.each) way.core

pub returns-clause-listed : goal.returns-clause-listed
returns-clause-listed c =
    let out = c.requires.core.0 in
    let l = c.loop-turn in
    let w = c.args.work.now in
    let lists = c.args.lists.now in
    let start = c.args.nodes.now.items in
    let es = c.args.events.now in
    let first = c.args.order.now in
    let way = l.invariant out c.requires.core.1 in
    let test = c.loop-turn-test.false in
    ended_listed w lists start out es l._turn first l.order l.nodes.items l.used way (omega (arith, test))
    c.put_back-2.new.nodes.items (c.put_back-2.ensures.same way.rests way.at_rest.count way.at_rest.each)

pub returns-clause-leads : goal.returns-clause-leads
returns-clause-leads c = λ out is.
    let l = c.loop-turn in
    let w = c.args.work.now in
    let lists = c.args.lists.now in
    let start = c.args.nodes.now.items in
    let es = c.args.events.now in
    let first = c.args.order.now in
    let way = l.invariant out is in
    let test = c.loop-turn-test.false in
    ended_leads w lists start out es l._turn first l.order l.nodes.items l.used way (omega (arith, test))
    c.put_back-2.new.nodes.items (c.put_back-2.ensures.same way.rests way.at_rest.count way.at_rest.each)
