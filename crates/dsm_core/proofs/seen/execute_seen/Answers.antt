-- The node's turn is the core's event.
use Rattle.std.proofs.Common.{◌≡◌, ◌<◌, ◌^◌, true, ◌∙◌, sym, subst}
use Rattle.run_order.specs.node_model.Node.{Node, can_execute}
use Rattle.node_machine.specs.NodeState.{node_of, work_of as work_at}
use Rattle.dsm_core.proofs.CoreSteps.{same_node, set_same, executed}
use Rattle.dsm_core.proofs.Seeing.{word_seen}
use Rattle.dsm_core.proofs.seen.execute_seen.Goals as goal

pub exec_with_wants-word-requires-clause-may : goal.exec_with_wants-word-requires-clause-may
exec_with_wants-word-requires-clause-may c =
    let x = c.index_mut.result.now in
    let below = subst (λ z. c.args.node < z) (sym c.make_room.ensures.count) c.requires.allowed.0 in
    subst (λ (z : Node). can_execute z.phase ≡ true)
    (sym (same_node c.args.nodes.now.items c.make_room.new.nodes.items c.args.node x (node_of x)
    below c.make_room.ensures.nodes c.index_mut.ensures.value)) (c.requires.allowed.1 (node_of x))

pub exec_with_wants-word-requires-clause-stamp : goal.exec_with_wants-word-requires-clause-stamp
exec_with_wants-word-requires-clause-stamp c =
    let x = c.index_mut.result.now in
    let below = subst (λ z. c.args.node < z) (sym c.make_room.ensures.count) c.requires.allowed.0 in
    subst (λ (z : Node). z.stamp < 2 ^ 56)
    (sym (same_node c.args.nodes.now.items c.make_room.new.nodes.items c.args.node x (node_of x)
    below c.make_room.ensures.nodes c.index_mut.ensures.value)) (c.requires.allowed.2 (node_of x))

pub returns-clause-works : goal.returns-clause-works
returns-clause-works c =
    let below = subst (λ z. c.args.node < z) (sym c.make_room.ensures.count) c.requires.allowed.0 in
    set_same work_at c.make_room.new.nodes.items c.args.node c.index_mut.result.now
    c.exec_with_wants-word.new.self below c.index_mut.ensures.value c.exec_with_wants-word.ensures.work
    ∙ c.make_room.ensures.nodes.works

pub returns-clause-event : goal.returns-clause-event
returns-clause-event c =
    executed c.args.count c.args.node c.args.nodes.now.items c.make_room.new.nodes.items
    c.index_mut.result.now c.exec_with_wants-word.new.self c.args.lists.now.items
    c.make_room.new.lists.items c.send.new.queues.items c.exec_with_wants-word.result.turn.stamp
    c.exec_with_wants-word.new.sends.items c.make_room.ensures.count c.requires.allowed.0
    c.make_room.ensures.nodes c.index_mut.ensures.value c.make_room.ensures.wires
    c.send.ensures.sent c.exec_with_wants-word.ensures.node c.exec_with_wants-word.ensures.sends
    c.exec_with_wants-word.ensures.stamp

pub returns-clause-seen : goal.returns-clause-seen
returns-clause-seen c =
    word_seen c.args.count c.args.node c.args.nodes.now.items c.make_room.new.nodes.items
    c.index_mut.result.now c.args.lists.now.items c.exec_with_wants-word.new.sends.items
    (record { sends = c.headers_of.result; wants = c.exec_with_wants-word.result.wants; printed = c.exec_with_wants-word.result.turn.output })
    c.make_room.ensures.count c.requires.allowed.0 c.make_room.ensures.nodes
    c.index_mut.ensures.value c.exec_with_wants-word.ensures.sends c.exec_with_wants-word.ensures.wants
    c.exec_with_wants-word.ensures.output c.headers_of.ensures
