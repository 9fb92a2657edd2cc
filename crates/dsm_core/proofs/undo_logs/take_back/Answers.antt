use Rattle.std.proofs.Common.{◌<◌, ◌∙◌, length, get_or, arith}
use Rattle.std.proofs.lemmas.List.{length-set}
use Rattle.node_machine.specs.NodeState.{work_of as work_at}
use Rattle.dsm_core.proofs.CoreSteps.{set_same}
use Rattle.dsm_core.proofs.UndoLogLemmas.{from_set, same_more, back_here, back_there}
use Rattle.dsm_core.proofs.undo_logs.take_back.Goals as goal

pub take_back-requires : goal.take_back-requires
take_back-requires c =
    let l = c.loop-node in
    let x = c.index_mut.result.now in
    let t = c.index_mut-in-loop-node.result.now in
    let first = c.requires.back.0 in
    record {
      back = (
        get_or first l.node x,
        back_here c.args.end l.node c.args.undo_logs.now.items l.undo_logs.items c.args.nodes.now.items l.nodes.items first t x
            c.loop-node-test.true c.requires.back.1 l.invariant.left l.invariant.rest c.index_mut-in-loop-node.ensures.value c.index_mut.ensures.value,
      );
    }

pub loop-node-preserved : goal.loop-node-preserved
loop-node-preserved c =
    let l = c.loop-node in
    let x = c.index_mut.result.now in
    let y = c.take_back.new.self in
    let t = c.index_mut-in-loop-node.result.now in
    let low = c.loop-node-test.true in
    let most = c.requires.nodes in
    let len = l.invariant.nodes in
    let below0 : l.node < length c.args.nodes.now.items = omega (arith, low, most) in
    let below : l.node < length l.nodes.items = omega (arith, low, most, len) in
    record {
      nodes = length-set l.nodes.items l.node y ∙ len;
      undo_logs = length-set l.undo_logs.items l.node c.take_back.new.undo_log ∙ l.invariant.undo_logs;
      works = set_same work_at l.nodes.items l.node x y below c.index_mut.ensures.value c.take_back.ensures.work ∙ l.invariant.works;
      done = λ first all. same_more l.node first l.nodes.items y below
          (λ d. c.take_back.ensures.back (get_or first l.node d)
          (back_there c.args.end l.node c.args.undo_logs.now.items l.undo_logs.items c.args.nodes.now.items l.nodes.items first t x d
          low below0 all l.invariant.left l.invariant.rest c.index_mut-in-loop-node.ensures.value c.index_mut.ensures.value))
          (l.invariant.done first all);
      rest = from_set l.node c.args.nodes.now.items l.nodes.items y l.invariant.rest;
      left = from_set l.node c.args.undo_logs.now.items l.undo_logs.items c.take_back.new.undo_log l.invariant.left;
    }
