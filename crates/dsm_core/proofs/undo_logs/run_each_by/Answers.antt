use Rattle.std.proofs.Common.{◌≡◌, ℕ, ◌<◌, ◌^◌, ◌+◌, ◌∙◌, true, sym, subst, length, slice_index_or, arith}
use Rattle.std.proofs.lemmas.List.{length-set}
use Rattle.run_order.specs.node_model.Node.{Node, can_execute}
use Rattle.node_machine.specs.NodeState.{node_of, work_of as work_at}
use Rattle.dsm_core.proofs.CoreSteps.{read_at, set_same}
use Rattle.dsm_core.specs.CoreSteps.{HaveLearnedBelow}
use Rattle.dsm_core.proofs.LearnedLemmas.{image_there, learned_more}
use Rattle.dsm_core.proofs.UndoLogLemmas.{from_set, read_here, gone_more, back_more, all_same}
use Rattle.dsm_core.proofs.undo_logs.run_each_by.Goals as goal

pub run_undoable_by-made-requires-clause-may : goal.run_undoable_by-made-requires-clause-may
run_undoable_by-made-requires-clause-may g c some =
    let l = c.loop-node in
    let x = c.index_mut.result.now in
    let ns = c.args.nodes.now.items in
    let low = c.loop-node-test.true in
    let below : l.node < length ns = subst (λ z. l.node < z) (sym c.requires.count) low in
    subst (λ (n : Node). can_execute n.phase ≡ true)
    (read_at node_of ns l.node x (node_of x) below (sym (read_here l.node ns l.nodes.items x l.invariant.rest c.index_mut.ensures.value)))
    (c.requires.may l.node low some (node_of x))

pub run_undoable_by-made-requires-clause-stamp : goal.run_undoable_by-made-requires-clause-stamp
run_undoable_by-made-requires-clause-stamp g c =
    let l = c.loop-node in
    let x = c.index_mut.result.now in
    let ns = c.args.nodes.now.items in
    let low = c.loop-node-test.true in
    let below : l.node < length ns = subst (λ z. l.node < z) (sym c.requires.count) low in
    subst (λ (n : Node). n.stamp < 2 ^ 56)
    (read_at node_of ns l.node x (node_of x) below (sym (read_here l.node ns l.nodes.items x l.invariant.rest c.index_mut.ensures.value)))
    (c.requires.stamp l.node low (node_of x))

pub run_undoable_by-made-requires-clause-goes_over : goal.run_undoable_by-made-requires-clause-goes_over
run_undoable_by-made-requires-clause-goes_over g c =
    let l = c.loop-node in
    let ns = c.args.nodes.now.items in
    let low = c.loop-node-test.true in
    let below : l.node < length ns = subst (λ z. l.node < z) (sym c.requires.count) low in
    let x = c.index_mut.result.now in
    l.invariant.stays (work_at x).image
    (image_there (λ image. g.L.WordLoop.goes_over image c.args.by.now) l.node ns l.nodes.items x below l.invariant.rest
    c.index_mut.ensures.value c.requires.goes_over)

pub take_back-requires-clause-back : goal.take_back-requires-clause-back
take_back-requires-clause-back g c =
    let l = c.loop-node in
    let i = l.node in
    let ns = c.args.nodes.now.items in
    let low = c.loop-node-test.true in (
      ns,
      back_more i ns l.nodes.items l.undo_logs.items c.index_mut.result.now c.run_undoable_by-made.new.self c.run_undoable_by-made.new.undo_log
          (subst (λ z. i < z) (sym c.requires.count) low) (subst (λ z. i < z) (sym l.invariant.nodes) low) (subst (λ z. i < z) (sym l.invariant.undo_logs) low)
          c.index_mut.ensures.value l.invariant.rest c.run_undoable_by-made.ensures.back l.invariant.back,
    )

pub returns-then-made-from-clause-works : goal.returns-then-made-from-clause-works
returns-then-made-from-clause-works g c =
    let l = c.loop-node in
    let below = subst (λ z. l.node < z) (sym l.invariant.nodes) c.loop-node-test.true in
    c.take_back.ensures.works
    ∙ set_same work_at l.nodes.items l.node c.index_mut.result.now c.run_undoable_by-made.new.self below c.index_mut.ensures.value c.run_undoable_by-made.ensures.work
    ∙ l.invariant.works

pub returns-then-made-from-clause-kept : goal.returns-then-made-from-clause-kept
returns-then-made-from-clause-kept g c =
    let l = c.loop-node in
    let i = l.node in
    let ns = c.args.nodes.now.items in
    let low = c.loop-node-test.true in
    let back = back_more i ns l.nodes.items l.undo_logs.items c.index_mut.result.now c.run_undoable_by-made.new.self c.run_undoable_by-made.new.undo_log
    (subst (λ z. i < z) (sym c.requires.count) low) (subst (λ z. i < z) (sym l.invariant.nodes) low) (subst (λ z. i < z) (sym l.invariant.undo_logs) low)
    c.index_mut.ensures.value l.invariant.rest c.run_undoable_by-made.ensures.back l.invariant.back in
    all_same (i + 1) c.args.count ns _ c.take_back.new.nodes.items (c.take_back.ensures.back ns back) c.take_back.ensures.rest
    (from_set i ns l.nodes.items c.run_undoable_by-made.new.self l.invariant.rest)

pub loop-node-preserved : goal.loop-node-preserved
loop-node-preserved g c =
    let l = c.loop-node in
    let i = l.node in
    let ns = c.args.nodes.now.items in
    let x = c.index_mut.result.now in
    let y = c.run_undoable_by-made.new.self in
    let low = c.loop-node-test.true in
    let below0 = subst (λ z. i < z) (sym c.requires.count) low in
    let below = subst (λ z. i < z) (sym l.invariant.nodes) low in
    let there = subst (λ z. i < z) (sym l.invariant.undo_logs) low in
    let enough = c.if-made-from.false in
    let from = c.from.ensures in
    let most = c.run_undoable_by-made.ensures.most in
    record {
      nodes = length-set l.nodes.items i y ∙ l.invariant.nodes;
      undo_logs = length-set l.undo_logs.items i c.run_undoable_by-made.new.undo_log ∙ l.invariant.undo_logs;
      works = set_same work_at l.nodes.items i x y below c.index_mut.ensures.value c.run_undoable_by-made.ensures.work ∙ l.invariant.works;
      gone = gone_more (λ k. slice_index_or c.args.words.now k 0) i ns l.nodes.items x y c.run_undoable_by-made.result below0 below c.index_mut.ensures.value
          l.invariant.rest (omega (arith, enough, from, most))
          (record { goes_on = c.run_undoable_by-made.ensures.goes_on; may = c.run_undoable_by-made.ensures.may }) l.invariant.gone;
      learned = learned_more g.L.WordLoop.learns (λ k. slice_index_or c.args.words.now k 0) i c.run_undoable_by-made.result ns l.nodes.items x
          c.args.by.now l.by c.run_undoable_by-made.new.by below0 l.invariant.rest c.index_mut.ensures.value (omega (arith, enough, from, most))
          c.run_undoable_by-made.ensures.learns l.invariant.learned;
      stays = λ image over. c.run_undoable_by-made.ensures.stays image (l.invariant.stays image over);
      within = omega (arith, low);
      back = back_more i ns l.nodes.items l.undo_logs.items x y c.run_undoable_by-made.new.undo_log below0 below there c.index_mut.ensures.value
          l.invariant.rest c.run_undoable_by-made.ensures.back l.invariant.back;
      rest = from_set i ns l.nodes.items y l.invariant.rest;
    }

pub returns-clause-learns : goal.returns-clause-learns
returns-clause-learns g c =
    let l = c.loop-node in
    let past = c.loop-node-test.false in
    let within = l.invariant.within in
    let all : l.node ≡ c.args.count = omega (arith, past, within) in
    subst (λ (k : ℕ). HaveLearnedBelow g.L.WordLoop.learns (λ i. slice_index_or c.args.words.now i 0) k c.args.nodes.now.items c.args.by.now
    l.by) all l.invariant.learned
