-- The node's words are the core's events.
use Rattle.std.proofs.Common.{◌≡◌, ◌<◌, ◌^◌, ◌-◌, true, ◌∙◌, sym, subst, arith}
use Rattle.run_order.specs.node_model.Node.{Node, can_execute}
use Rattle.node_machine.specs.NodeState.{node_of, work_of as work_at}
use Rattle.dsm_core.proofs.CoreSteps.{same_node, set_same}
use Rattle.dsm_core.proofs.Words.{executed_on, ran_stamp}
use Rattle.dsm_core.proofs.steps.run_until_send.Goals as goal

pub run_until_send-turn-requires-clause-may : goal.run_until_send-turn-requires-clause-may
run_until_send-turn-requires-clause-may c =
    let x = c.index_mut-stored.result.now in
    let below = subst (λ z. c.args.node < z) (sym c.make_room.ensures.count) c.requires.allowed.0 in
    subst (λ (z : Node). can_execute z.phase ≡ true)
    (sym (same_node c.args.nodes.now.items c.make_room.new.nodes.items c.args.node x (node_of x)
    below c.make_room.ensures.nodes c.index_mut-stored.ensures.value)) (c.requires.allowed.1 (node_of x))

pub run_until_send-turn-requires-clause-stamp : goal.run_until_send-turn-requires-clause-stamp
run_until_send-turn-requires-clause-stamp c =
    let x = c.index_mut-stored.result.now in
    let below = subst (λ z. c.args.node < z) (sym c.make_room.ensures.count) c.requires.allowed.0 in
    subst (λ (z : Node). z.stamp < 2 ^ 56)
    (sym (same_node c.args.nodes.now.items c.make_room.new.nodes.items c.args.node x (node_of x)
    below c.make_room.ensures.nodes c.index_mut-stored.ensures.value))
    (c.requires.allowed.2 (node_of x))

pub overflow_sub-words : goal.overflow_sub-words
overflow_sub-words c =
    let ran = ran_stamp (work_at c.index_mut-stored.result.now)
    (node_of c.index_mut-stored.result.now) (node_of c.run_until_send-turn.new.self)
    c.run_until_send-turn.new.sends.items c.run_until_send-turn.result.output c.run_until_send-turn.ensures.ran in
    let last = c.run_until_send-turn.ensures.stamp in
    let first = c.stamp-stamp.ensures in
    omega (arith, ran, last, first)

pub returns-clause-works : goal.returns-clause-works
returns-clause-works c =
    let below = subst (λ z. c.args.node < z) (sym c.make_room.ensures.count) c.requires.allowed.0 in
    set_same work_at c.make_room.new.nodes.items c.args.node c.index_mut-stored.result.now
    c.run_until_send-turn.new.self below c.index_mut-stored.ensures.value c.run_until_send-turn.ensures.work
    ∙ c.make_room.ensures.nodes.works

pub returns-clause-ran : goal.returns-clause-ran
returns-clause-ran c =
    let x = c.index_mut-stored.result.now in
    let y = c.run_until_send-turn.new.self in
    let turn = c.run_until_send-turn.result in
    let ran = ran_stamp (work_at x) (node_of x) (node_of y) c.run_until_send-turn.new.sends.items turn.output
    c.run_until_send-turn.ensures.ran in
    let last = c.run_until_send-turn.ensures.stamp in
    let first = c.stamp-stamp.ensures in
    executed_on c.args.count c.args.node (turn.stamp - c.stamp-stamp.result)
    c.args.nodes.now.items c.make_room.new.nodes.items x y c.args.lists.now.items
    c.make_room.new.lists.items c.send.new.queues.items turn.stamp c.run_until_send-turn.new.sends.items turn.output
    c.make_room.ensures.count c.requires.allowed.0 c.make_room.ensures.nodes
    c.index_mut-stored.ensures.value c.make_room.ensures.wires c.send.ensures.sent
    c.run_until_send-turn.ensures.ran last (omega (arith, ran, last, first))
