-- The node's word is the core's event.
use Rattle.std.proofs.Common.{◌≡◌, ◌<◌, ◌^◌, true, refl, sym, subst}
use Rattle.run_order.specs.node_model.Node.{Node, can_execute}
use Rattle.node_machine.specs.NodeState.{node_of, work_of as work_at}
use Rattle.dsm_core.specs.CoreSteps.{SameNodes}
use Rattle.dsm_core.proofs.CoreSteps.{same_node, set_same}
use Rattle.dsm_core.proofs.Words.{passed}
use Rattle.dsm_core.proofs.steps.exec_silent.Goals as goal

pub exec_silent-requires-clause-may : goal.exec_silent-requires-clause-may
exec_silent-requires-clause-may c =
    let ns = c.args.nodes.now.items in
    let x = c.index_mut.result.now in
    let below = subst (λ z. c.args.node < z) (sym c.requires.count) c.requires.allowed.0 in
    let same : SameNodes ns ns = record { nodes = refl; works = refl } in
    subst (λ (z : Node). can_execute z.phase ≡ true)
    (sym (same_node ns ns c.args.node x (node_of x) below same c.index_mut.ensures.value))
    (c.requires.allowed.1 (node_of x))

pub exec_silent-requires-clause-stamp : goal.exec_silent-requires-clause-stamp
exec_silent-requires-clause-stamp c =
    let ns = c.args.nodes.now.items in
    let x = c.index_mut.result.now in
    let below = subst (λ z. c.args.node < z) (sym c.requires.count) c.requires.allowed.0 in
    let same : SameNodes ns ns = record { nodes = refl; works = refl } in
    subst (λ (z : Node). z.stamp < 2 ^ 56)
    (sym (same_node ns ns c.args.node x (node_of x) below same c.index_mut.ensures.value))
    (c.requires.allowed.2 (node_of x))

pub returns-clause-works : goal.returns-clause-works
returns-clause-works c =
    let below = subst (λ z. c.args.node < z) (sym c.requires.count) c.requires.allowed.0 in
    set_same work_at c.args.nodes.now.items c.args.node c.index_mut.result.now c.exec_silent.new.self below
    c.index_mut.ensures.value c.exec_silent.ensures.work

pub returns-clause-passed : goal.returns-clause-passed
returns-clause-passed c = λ true.
    passed c.args.count c.args.node c.args.nodes.now.items c.index_mut.result.now c.exec_silent.new.self
    c.requires.count c.requires.allowed.0 c.index_mut.ensures.value (c.exec_silent.ensures.passed true).0
    (c.exec_silent.ensures.passed true).1

pub returns-clause-same : goal.returns-clause-same
returns-clause-same c = λ false.
    let ns = c.args.nodes.now.items in
    let x = c.index_mut.result.now in
    let y = c.exec_silent.new.self in
    let is = c.index_mut.ensures.value in
    let below = subst (λ z. c.args.node < z) (sym c.requires.count) c.requires.allowed.0 in
    record {
      nodes = set_same node_of ns c.args.node x y below is (c.exec_silent.ensures.same false);
      works = set_same work_at ns c.args.node x y below is c.exec_silent.ensures.work;
    }
