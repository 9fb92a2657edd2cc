-- The node's turn is the core's event.
use Rattle.std.proofs.Common.{◌≡◌, ◌<◌, ◌≤◌, ◌∙◌, true, ap, sym, subst, arith}
use Rattle.lane_law.specs.dsm_protocol.Queue.{AreQueues, IsSent}
use Rattle.lane_model.specs.node_model.Core.{may_execute}
use Rattle.lane_model.specs.Nodes.{LaneNode, node_of, lane_of, opening_node}
use Rattle.lane_model.specs.Core.{LaneCore, standing_of}
use Rattle.lane_machine.specs.SmpNodes.{lane_work, node_in}
use Rattle.smp_sim.proofs.CoreRuns.{lane_low, placed}
use Rattle.smp_sim.proofs.CoreSteps.{can_execute_by, executed, node_at, read_at, stored_then}
use Rattle.smp_sim.proofs.steps.execute.Goals as goal

pub exec-turn-requires-clause-may : goal.exec-turn-requires-clause-may
exec-turn-requires-clause-may c =
    let w = lane_work c.args.work.now in
    let p = c.args.processor in
    let i = node_of w p in
    let k = lane_of w p in
    let ns = c.make_room.new.nodes.items in
    let x = c.index_mut.result.now in
    let at = c.index_mut.ensures.value in
    let are = c.make_room.ensures.stored in
    let below = subst (λ z. i < z) (sym are.count) (placed w p c.requires.some c.requires.allowed.0) in
    let is = node_at w ns i x are.each below at in
    let same = ap (λ (z : LaneCore). z.nodes i) (sym c.make_room.ensures.core)
    ∙ read_at (node_in w i) ns i x (opening_node w i) below at in
    can_execute_by w i k x (subst (λ z. k < z) (sym is.lanes.count) (lane_low w p c.requires.some))
    (subst (λ (z : LaneNode). may_execute (standing_of w z k) ≡ true) same c.requires.allowed.1)

pub exec-turn-requires-clause-stamp : goal.exec-turn-requires-clause-stamp
exec-turn-requires-clause-stamp c =
    let w = lane_work c.args.work.now in
    let p = c.args.processor in
    let i = node_of w p in
    let ns = c.make_room.new.nodes.items in
    let x = c.index_mut.result.now in
    let at = c.index_mut.ensures.value in
    let bi = placed w p c.requires.some c.requires.allowed.0 in
    let below = subst (λ z. i < z) (sym c.make_room.ensures.stored.count) bi in
    let same = ap (λ (z : LaneCore). z.nodes i) (sym c.make_room.ensures.core)
    ∙ read_at (node_in w i) ns i x (opening_node w i) below at in
    let low = subst (λ (z : LaneNode). z.shared.stamp ≤ c.requires.range.0) same
    (c.requires.range.2.nodes i bi) in
    let most = c.requires.range.1 in
    omega (arith, low, most)

pub returns-clause-stored : goal.returns-clause-stored
returns-clause-stored c =
    let w = lane_work c.args.work.now in
    let p = c.args.processor in
    let i = node_of w p in
    let ns = c.make_room.new.nodes.items in
    let x = c.index_mut.result.now in
    let are = c.make_room.ensures.stored in
    let below = subst (λ z. i < z) (sym are.count) (placed w p c.requires.some c.requires.allowed.0) in
    let is = node_at w ns i x are.each below c.index_mut.ensures.value in
    stored_then w ns c.make_room.new.lists.items c.send.new.queues.items i c.exec-turn.new.self are
    below (c.exec-turn.ensures.is_node w is)
    (subst (AreQueues c.send.new.queues.items) c.nodes-count.ensures.nodes c.send.ensures.queues)

pub returns-clause-event : goal.returns-clause-event
returns-clause-event c =
    let w = lane_work c.args.work.now in
    let p = c.args.processor in
    let i = node_of w p in
    let k = lane_of w p in
    let ns = c.make_room.new.nodes.items in
    let q1 = c.make_room.new.lists.items in
    let q2 = c.send.new.queues.items in
    let x = c.index_mut.result.now in
    let y = c.exec-turn.new.self in
    let turn = c.exec-turn.result in
    let posts = c.exec-turn.new.sends.items in
    let at = c.index_mut.ensures.value in
    let are = c.make_room.ensures.stored in
    let bi = placed w p c.requires.some c.requires.allowed.0 in
    let below = subst (λ z. i < z) (sym are.count) bi in
    let is = node_at w ns i x are.each below at in
    executed w p c.args.nodes.now.items ns c.args.lists.now.items q1 q2 c.args.output.now.items
    c.make_room.new.output.items c.print.new.output.items x y turn.stamp posts turn.output below at
    c.make_room.ensures.core
    (subst (λ z. IsSent q1 q2 z i turn.stamp posts) c.nodes-count.ensures.nodes c.send.ensures.sent)
    (c.exec-turn.ensures.turn w i is) c.exec-turn.ensures.stamp c.exec-turn.ensures.stamps bi
    c.make_room.ensures.output c.print.ensures
