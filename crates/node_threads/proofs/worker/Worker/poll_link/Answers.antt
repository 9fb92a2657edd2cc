use Rattle.std.proofs.Common.{refl, ◌<◌, length, arith, subst}
use Rattle.dsm_core.specs.run_order.Apart.{Takes}
use Rattle.node_threads.proofs.Outboxes.{through_pop, through_same, links_same}
use Rattle.node_threads.proofs.Working.{works_same, works_undelivered, works_turn}
use Rattle.node_threads.proofs.worker.Worker.poll_link.Goals as goal

pub returns-in_default-clause-works : goal.returns-in_default-clause-works
returns-in_default-clause-works g c =
    let below : c.from.result < length c.args.self.now.takes.items =
    omega (arith, c.from.ensures, c.requires.from) in
    works_same c.args.self.now _ c.requires.undelivered refl refl refl refl
    (through_same c.args.self.now.takes.items c.from.result c.index_mut.result.now c.pop.new.self
    below c.index_mut.ensures.value c.in_default.ensures.taken)
    (links_same _ _ c.index_mut.result.now _ below c.index_mut.ensures.value c.pop.ensures.link
    c.pop.ensures.capacity)

pub returns-then-wire-ge-STAMPS-clause-works : goal.returns-then-wire-ge-STAMPS-clause-works
returns-then-wire-ge-STAMPS-clause-works g c =
    let below : c.from.result < length c.args.self.now.takes.items =
    omega (arith, c.from.ensures, c.requires.from) in
    works_undelivered c.args.self.now _ refl refl refl
    (through_pop c.args.self.now.takes.items c.from.result c.args.from c.index_mut.result.now
    c.pop.new.self c.in-Some.wire c.from.ensures below c.index_mut.ensures.value
    c.in-Some.ensures.taken)
    (links_same _ _ c.index_mut.result.now _ below c.index_mut.ensures.value c.pop.ensures.link
    c.pop.ensures.capacity)

pub returns-clause-works : goal.returns-clause-works
returns-clause-works g c =
    let below : c.from.result < length c.args.self.now.takes.items =
    omega (arith, c.from.ensures, c.requires.from) in
    let t = c.take_into-turn in
    works_turn c.args.self.now _ c.room.new.self (Takes c.args.from c.in-Some.wire) t.result.stamp
    t.new.sends.items c.requires.undelivered c.requires.rows
    (subst (λ n. c.args.from < n) c.requires.rows.takes c.requires.from, c.requires.may)
    c.room.ensures.work c.room.ensures.node t.ensures.work t.ensures.node t.ensures.sends
    t.ensures.stamp
    (through_pop c.args.self.now.takes.items c.from.result c.args.from c.index_mut.result.now
    c.pop.new.self c.in-Some.wire c.from.ensures below c.index_mut.ensures.value
    c.in-Some.ensures.taken)
    (links_same _ _ c.index_mut.result.now _ below c.index_mut.ensures.value c.pop.ensures.link
    c.pop.ensures.capacity)
    refl c.in_ok-queue_sends.ensures.wires c.queue_sends.ensures.len
