-- A node with more room stands for the same.
use Rattle.std.proofs.Common.{◌<◌, sym, subst}
use Rattle.node_machine.specs.NodeState.{node_of, work_of as work_at}
use Rattle.dsm_core.proofs.CoreSteps.{set_same}
use Rattle.dsm_core.proofs.steps.make_room.Goals as goal

pub returns-in_err-room-clause-nodes : goal.returns-in_err-room-clause-nodes
returns-in_err-room-clause-nodes c =
    let ns = c.args.nodes.now.items in
    let x = c.index_mut.result.now in
    let y = c.room.new.self in
    let is = c.index_mut.ensures.value in
    let below = subst (λ z. c.args.node < z) (sym c.requires.count) c.requires.node in
    record {
      nodes = set_same node_of ns c.args.node x y below is c.room.ensures.node;
      works = set_same work_at ns c.args.node x y below is c.room.ensures.work;
    }

pub returns-clause-nodes : goal.returns-clause-nodes
returns-clause-nodes c =
    let ns = c.args.nodes.now.items in
    let x = c.index_mut.result.now in
    let y = c.room.new.self in
    let is = c.index_mut.ensures.value in
    let below = subst (λ z. c.args.node < z) (sym c.requires.count) c.requires.node in
    record {
      nodes = set_same node_of ns c.args.node x y below is c.room.ensures.node;
      works = set_same work_at ns c.args.node x y below is c.room.ensures.work;
    }
