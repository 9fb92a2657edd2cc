-- A node with more room stands for the same.
use Rattle.std.proofs.Common.{◌<◌, sym, subst}
use Rattle.lane_law.specs.dsm_protocol.Queue.{AreQueues, SameWires}
use Rattle.lane_machine.specs.SmpNodes.{lane_work, node_in}
use Rattle.smp_sim.proofs.CoreSteps.{core_same, node_at, set_same, stored_then}
use Rattle.smp_sim.proofs.steps.make_room.Goals as goal

pub returns-clause-stored : goal.returns-clause-stored
returns-clause-stored c =
    let w = lane_work c.args.work.now in
    let ns = c.args.nodes.now.items in
    let x = c.index_mut.result.now in
    let e = c.nodes-count.ensures.nodes in
    let are = c.requires.stored in
    let below = subst (λ z. c.args.node < z) (sym are.count) c.requires.node in
    let is = node_at w ns c.args.node x are.each below c.index_mut.ensures.value in
    stored_then w ns c.args.lists.now.items c.reserve_from.new.queues.items c.args.node
    c.room.new.self are below (c.room.ensures.is_node w is)
    (subst (AreQueues c.reserve_from.new.queues.items) e c.reserve_from.ensures.queues)

pub returns-clause-core : goal.returns-clause-core
returns-clause-core c =
    let w = lane_work c.args.work.now in
    let ns = c.args.nodes.now.items in
    let x = c.index_mut.result.now in
    let y = c.room.new.self in
    let e = c.nodes-count.ensures.nodes in
    let below = subst (λ z. c.args.node < z) (sym c.requires.stored.count) c.requires.node in
    core_same w ns _ c.args.lists.now.items c.reserve_from.new.queues.items
    (λ k. set_same (node_in w k) ns c.args.node x y below c.index_mut.ensures.value
    (c.room.ensures.node w k))
    (subst (SameWires c.args.lists.now.items c.reserve_from.new.queues.items) e
    c.reserve_from.ensures.wires)
