-- The node's turn is the core's event.
use Rattle.std.proofs.Common.{◌≢◌, ◌<◌, ◌≤◌, ◌∙◌, [], List, ap, sym, subst, arith}
use Rattle.std.specs.Prelude.{All}
use Rattle.std.proofs.lemmas.List.Elements.{All-head}
use Rattle.home_directory.specs.dsm_messages.declared.messages.Wire.{Wire}
use Rattle.lane_law.specs.dsm_protocol.Queue.{AreQueues, HasRoom, IsSent, IsTaken, wires_of}
use Rattle.lane_model.specs.Nodes.{LaneNode, opening_node}
use Rattle.lane_model.specs.Core.{LaneCore}
use Rattle.lane_machine.specs.SmpNodes.{lane_work, node_in}
use Rattle.smp_sim.proofs.CoreSteps.{node_at, read_at, stored_then, taken}
use Rattle.smp_sim.proofs.steps.take.Goals as goal

pub take_first-wire-requires-clause-some : goal.take_first-wire-requires-clause-some
take_first-wire-requires-clause-some c =
    let i = c.args.node in
    let j = c.args.from in
    let some = subst (λ (ws : List Wire). ws ≢ [])
    (ap (λ (z : LaneCore). z.list j i) (sym c.make_room.ensures.core)) c.requires.allowed.2 in
    subst (λ z. wires_of c.make_room.new.lists.items z j i ≢ []) (sym c.nodes-count.ensures.nodes) some

pub take-turn-requires-clause-stamp : goal.take-turn-requires-clause-stamp
take-turn-requires-clause-stamp c =
    let w = lane_work c.args.work.now in
    let i = c.args.node in
    let ns = c.make_room.new.nodes.items in
    let x = c.index_mut.result.now in
    let bi = c.requires.allowed.0 in
    let below = subst (λ z. i < z) (sym c.make_room.ensures.stored.count) bi in
    let same = ap (λ (z : LaneCore). z.nodes i) (sym c.make_room.ensures.core)
    ∙ read_at (node_in w i) ns i x (opening_node w i) below c.index_mut.ensures.value in
    let low = subst (λ (z : LaneNode). z.shared.stamp ≤ c.requires.range.0) same
    (c.requires.range.2.nodes i bi) in
    let most = c.requires.range.1 in
    omega (arith, low, most)

pub take-turn-requires-clause-wire : goal.take-turn-requires-clause-wire
take-turn-requires-clause-wire c =
    let w = lane_work c.args.work.now in
    let i = c.args.node in
    let j = c.args.from in
    let n = w.work.layout.nodes in
    let wire = c.take_first-wire.result in
    let q1 = c.make_room.new.lists.items in
    let q2 = c.take_first-wire.new.queues.items in
    let first = subst (λ z. IsTaken q1 q2 z j i wire) c.nodes-count.ensures.nodes
    c.take_first-wire.ensures.taken in
    let all = c.requires.range.2.wires j i c.requires.allowed.1 c.requires.allowed.0 in
    let front = subst (All (λ (v : Wire). v.stamp ≤ c.requires.range.0))
    (ap (λ (z : LaneCore). z.list j i) (sym c.make_room.ensures.core) ∙ first.first) all in
    let low = All-head (λ (v : Wire). v.stamp ≤ c.requires.range.0) wire (wires_of q2 n j i) front in
    let most = c.requires.range.1 in
    omega (arith, low, most)

pub send-requires-clause-room : goal.send-requires-clause-room
send-requires-clause-room c =
    let e = c.nodes-count.ensures.nodes in
    c.take_first-wire.ensures.room c.args.node 18
    (subst (λ z. c.args.node < z) (sym e) c.requires.allowed.0)
    (subst (λ z. HasRoom c.make_room.new.lists.items z c.args.node 18) (sym e) c.in_ok-make_room.ensures.room)

pub returns-clause-stored : goal.returns-clause-stored
returns-clause-stored c =
    let w = lane_work c.args.work.now in
    let i = c.args.node in
    let ns = c.make_room.new.nodes.items in
    let x = c.index_mut.result.now in
    let are = c.make_room.ensures.stored in
    let below = subst (λ z. i < z) (sym are.count) c.requires.allowed.0 in
    let is = node_at w ns i x are.each below c.index_mut.ensures.value in
    stored_then w ns c.make_room.new.lists.items c.send.new.queues.items i c.take-turn.new.self are
    below (c.take-turn.ensures.is_node w is)
    (subst (AreQueues c.send.new.queues.items) c.nodes-count.ensures.nodes c.send.ensures.queues)

pub returns-clause-event : goal.returns-clause-event
returns-clause-event c =
    let w = lane_work c.args.work.now in
    let i = c.args.node in
    let j = c.args.from in
    let ns = c.make_room.new.nodes.items in
    let q1 = c.make_room.new.lists.items in
    let q2 = c.take_first-wire.new.queues.items in
    let q3 = c.send.new.queues.items in
    let x = c.index_mut.result.now in
    let y = c.take-turn.new.self in
    let turn = c.take-turn.result in
    let posts = c.take-turn.new.sends.items in
    let wire = c.take_first-wire.result in
    let at = c.index_mut.ensures.value in
    let are = c.make_room.ensures.stored in
    let e = c.nodes-count.ensures.nodes in
    let bi = c.requires.allowed.0 in
    let below = subst (λ z. i < z) (sym are.count) bi in
    let is = node_at w ns i x are.each below at in
    taken w i j c.args.nodes.now.items ns c.args.lists.now.items q1 q2 q3 c.args.output.now.items
    c.make_room.new.output.items x y turn.stamp posts turn.output wire below at
    c.make_room.ensures.core
    (subst (λ z. IsTaken q1 q2 z j i wire) e c.take_first-wire.ensures.taken)
    (subst (λ z. IsSent q2 q3 z i turn.stamp posts) e c.send.ensures.sent)
    (c.take-turn.ensures.turn w i is) c.take-turn.ensures.stamp c.take-turn.ensures.stamps bi
    c.requires.allowed.1 c.make_room.ensures.output
