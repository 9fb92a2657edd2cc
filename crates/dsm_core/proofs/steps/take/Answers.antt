-- The node's turn is the core's event.
use Rattle.std.proofs.Common.{◌<◌, ◌^◌, ◌∙◌, sym, subst}
use Rattle.run_order.specs.node_model.Node.{Node}
use Rattle.node_machine.specs.NodeState.{node_of, work_of as work_at}
use Rattle.dsm_core.proofs.CoreSteps.{same_node, set_same, taken}
use Rattle.dsm_core.proofs.steps.take.Goals as goal

pub take_into-turn-requires-clause-stamp : goal.take_into-turn-requires-clause-stamp
take_into-turn-requires-clause-stamp c =
    let x = c.index_mut.result.now in
    let below = subst (λ z. c.args.node < z) (sym c.make_room.ensures.count) c.requires.allowed.0 in
    subst (λ (z : Node). z.stamp < 2 ^ 56)
    (sym (same_node c.args.nodes.now.items c.make_room.new.nodes.items c.args.node x (node_of x)
    below c.make_room.ensures.nodes c.index_mut.ensures.value)) (c.requires.allowed.3 (node_of x))

pub returns-clause-works : goal.returns-clause-works
returns-clause-works c =
    let below = subst (λ z. c.args.node < z) (sym c.make_room.ensures.count) c.requires.allowed.0 in
    set_same work_at c.make_room.new.nodes.items c.args.node c.index_mut.result.now
    c.take_into-turn.new.self below c.index_mut.ensures.value c.take_into-turn.ensures.work
    ∙ c.make_room.ensures.nodes.works

pub returns-clause-event : goal.returns-clause-event
returns-clause-event c =
    taken c.args.count c.args.node c.args.from c.args.nodes.now.items
    c.make_room.new.nodes.items c.index_mut.result.now c.take_into-turn.new.self
    c.args.lists.now.items c.make_room.new.lists.items c.take_first-wire.new.queues.items
    c.send.new.queues.items c.take_into-turn.result.stamp c.take_into-turn.new.sends.items
    c.take_first-wire.result c.make_room.ensures.count c.requires.allowed.0 c.requires.allowed.1
    c.make_room.ensures.nodes c.index_mut.ensures.value c.make_room.ensures.wires
    c.take_first-wire.ensures.taken c.send.ensures.sent c.take_into-turn.ensures.node
    c.take_into-turn.ensures.sends c.take_into-turn.ensures.stamp
