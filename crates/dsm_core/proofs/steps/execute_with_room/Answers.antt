-- The node's turn is the core's event.
use Rattle.std.proofs.Common.{◌≡◌, ◌<◌, ◌^◌, true, ◌∙◌, sym, subst}
use Rattle.run_order.specs.node_model.Node.{Node, can_execute}
use Rattle.node_machine.specs.NodeState.{node_of, work_of as work_at}
use Rattle.dsm_core.proofs.CoreSteps.{same_node, set_same, executed}
use Rattle.dsm_core.proofs.steps.execute_with_room.Goals as goal

pub exec_into-turn-requires-clause-may : goal.exec_into-turn-requires-clause-may
exec_into-turn-requires-clause-may c =
    let x = c.index_mut.result.now in
    let below = subst (λ z. c.args.node < z) (sym c.make_room.ensures.count) c.requires.allowed.0 in
    subst (λ (z : Node). can_execute z.phase ≡ true)
    (sym (same_node c.args.nodes.now.items c.make_room.new.nodes.items c.args.node x (node_of x)
    below c.make_room.ensures.nodes c.index_mut.ensures.value)) (c.requires.allowed.1 (node_of x))

pub exec_into-turn-requires-clause-stamp : goal.exec_into-turn-requires-clause-stamp
exec_into-turn-requires-clause-stamp c =
    let x = c.index_mut.result.now in
    let below = subst (λ z. c.args.node < z) (sym c.make_room.ensures.count) c.requires.allowed.0 in
    subst (λ (z : Node). z.stamp < 2 ^ 56)
    (sym (same_node c.args.nodes.now.items c.make_room.new.nodes.items c.args.node x (node_of x)
    below c.make_room.ensures.nodes c.index_mut.ensures.value)) (c.requires.allowed.2 (node_of x))

pub returns-clause-works : goal.returns-clause-works
returns-clause-works c =
    let below = subst (λ z. c.args.node < z) (sym c.make_room.ensures.count) c.requires.allowed.0 in
    set_same work_at c.make_room.new.nodes.items c.args.node c.index_mut.result.now
    c.exec_into-turn.new.self below c.index_mut.ensures.value c.exec_into-turn.ensures.work
    ∙ c.make_room.ensures.nodes.works

pub returns-clause-event : goal.returns-clause-event
returns-clause-event c =
    executed c.args.count c.args.node c.args.nodes.now.items c.make_room.new.nodes.items
    c.index_mut.result.now c.exec_into-turn.new.self c.args.lists.now.items
    c.make_room.new.lists.items c.send.new.queues.items c.exec_into-turn.result.stamp
    c.exec_into-turn.new.sends.items c.make_room.ensures.count c.requires.allowed.0
    c.make_room.ensures.nodes c.index_mut.ensures.value c.make_room.ensures.wires
    c.send.ensures.sent c.exec_into-turn.ensures.node c.exec_into-turn.ensures.sends
    c.exec_into-turn.ensures.stamp
