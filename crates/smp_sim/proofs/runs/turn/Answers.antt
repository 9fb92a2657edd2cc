-- The node's turn is the core's.
use Rattle.std.proofs.Common.{◌≡◌, ◌<◌, ℕ, [], None, inl, refl, subst, sym, arith}
use Rattle.std.specs.Prelude.{slice_index_or}
use Rattle.lane_model.specs.Nodes.{LaneWork, lane_of, node_of}
use Rattle.lane_law.specs.dsm_protocol.Queue.{wires_of}
use Rattle.lane_machine.specs.SmpNodes.{lane_work, node_in}
use Rattle.smp_sim.specs.CoreSteps.{IsShut}
use Rattle.smp_sim.proofs.CoreRuns.{lane_low}
use Rattle.smp_sim.proofs.TurnsInUse.{is_none, long, may_none, may_turn, no_mail, rests_at, shut_rest, turned_not, turned_on, turned_shut}
use Rattle.smp_sim.proofs.runs.turn.Goals as goal

pub nonzero_div-node : goal.nonzero_div-node
nonzero_div-node c = c.requires.may.core.work.some

pub nonzero_rem-lane : goal.nonzero_rem-lane
nonzero_rem-lane c = c.requires.may.core.work.some

pub turn-requires : goal.turn-requires
turn-requires c =
    let m = c.requires.may in
    record {
      may = may_turn c.args.work.now c.args.lists.now m.rests m.output c.args.processor
          c.args.nodes.now.items c.args.used.now m.at_rest m.core m.may
          c.lane_progress_law.ensures.short c.index_mut.result.now c.index_mut.ensures.value;
    }

-- where no message is on its way
pub returns-then-is_quiet : goal.returns-then-is_quiet
returns-then-is_quiet c =
    let w = c.args.work.now in
    let lists = c.args.lists.now in
    let r = c.args.processor in
    let xs = c.args.nodes.now.items in
    let used = c.args.used.now in
    let i = node_of (lane_work w) r in
    let x = c.index_mut.result.now in
    let at = c.index_mut.ensures.value in
    record {
      turned = λ ys out rest core may.
          let none = no_mail w lists ys out r xs used rest core may
          (subst (λ n. slice_index_or used i None ≡ None → (j : ℕ) → j < n → wires_of lists n j i ≡ [])
          c.nodes-count.ensures.nodes (c.is_quiet.ensures.quiet c.if-is_quiet.true)) in
          turned_on w lists ys out r xs used rest core may c.turn.result c.turn.new.self c.turn.new.used
          (c.turn.ensures.turned _ (rests_at w lists ys out r xs used rest core may x at))
          (long w lists ys out r xs used rest core may c.told-used)
          (λ some. none) (λ j low. inl (none j low));
    }

-- where some are

pub is_shut-requires-clause-lanes : goal.is_shut-requires-clause-lanes
is_shut-requires-clause-lanes c =
    let m = c.requires.may in
    let is = is_none c.args.work.now c.args.lists.now m.rests m.output c.args.processor
    c.args.nodes.now.items c.args.used.now m.at_rest m.core m.may c.index.result.now c.index.ensures
    (c.is_quiet.ensures.none c.if-is_quiet.false) in
    let many = is.lanes.count in
    omega (arith, many)

pub returns-then-not-is_shut : goal.returns-then-not-is_shut
returns-then-not-is_shut c = record {
  turned = λ ys out rest core may. turned_not c.args.work.now c.args.lists.now ys out c.args.processor
      c.args.nodes.now.items c.args.used.now rest core may;
}

pub exec_silent-requires : goal.exec_silent-requires
exec_silent-requires c =
    let m = c.requires.may in
    let w = c.args.work.now in
    let lists = c.args.lists.now in
    let r = c.args.processor in
    let xs = c.args.nodes.now.items in
    let used = c.args.used.now in
    let x = c.index_mut-2.result.now in
    let at = c.index_mut-2.ensures.value in
    let none = c.is_quiet.ensures.none c.if-is_quiet.false in
    let is = is_none w lists m.rests m.output r xs used m.at_rest m.core m.may x at none in
    let can = may_none w lists m.rests m.output r xs used m.at_rest m.core m.may x at none
    c.lane_progress_law.ensures.short in
    record {
      node = (lane_work w, is);
      lane = subst (λ z. lane_of (lane_work w) r < z) (sym is.lanes.count)
          (lane_low (lane_work w) r m.core.work.some);
      may = can.0;
      stamp = can.1;
    }

pub returns : goal.returns
returns c =
    let w = c.args.work.now in
    let v : LaneWork = lane_work w in
    let lists = c.args.lists.now in
    let r = c.args.processor in
    let xs = c.args.nodes.now.items in
    let used = c.args.used.now in
    let i = node_of v r in
    let k = lane_of v r in
    let z = c.index.result.now in
    let x = c.index_mut-2.result.now in
    let at = c.index_mut-2.ensures.value in
    let none = c.is_quiet.ensures.none c.if-is_quiet.false in
    let e = c.exec_silent.ensures in
    record {
      turned = λ ys out rest core may.
          let is = is_none w lists ys out r xs used rest core may z c.index.ensures none in
          let shut = subst (λ n. (j : ℕ) → j < n → IsShut v (node_in v i z) k (wires_of lists n j i))
          c.nodes-count.ensures.nodes (c.is_shut.ensures c.if-not-is_shut.false v is refl) in
          turned_shut w lists ys out r xs used rest core may x at none c.exec_silent.result
          c.exec_silent.new.self (long w lists ys out r xs used rest core may c.told-used) (record {
            rest = c.exec_silent.new.self;
            rests = refl;
            node = e.is_node;
            turn = e.turn;
            may = e.may;
            stamps = e.stamps;
            same = e.kept;
          }) (shut_rest w lists ys out r xs used rest core may z c.index.ensures none shut);
    }
