-- One lane more.
use Rattle.std.proofs.Common.{◌≡◌, suc, ◌+◌, ◌&&◌, ap, ◌∙◌, sym, arith}
use Rattle.lane_model.specs.Nodes.{all_lanes}
use Rattle.lane_model.specs.Core.{lane_lets}
use Rattle.lane_machine.specs.SmpNodes.{node_in}
use Rattle.lane_machine.proofs.LanesTold.{lane_not}
use Rattle.lane_machine.proofs.node.SmpNode.all_let.Goals as goal

pub loop-lane-preserved : goal.loop-lane-preserved
loop-lane-preserved c = record {
  all = λ w i is.
      let f = lane_lets w (node_in w i c.args.self.now) in
      let k = c.loop-lane.lane in
      let told = sym (c.lets.ensures.value w i is) ∙ c.if-not-lets.false in
      let was = c.loop-lane.invariant.all w i is in
      ap (all_lanes f) (let e : k + 1 ≡ suc k = omega arith in e) ∙ (λ t. told t && was t);
}

pub returns-then-not-lets : goal.returns-then-not-lets
returns-then-not-lets c = record {
  value = λ w i is.
      let test = c.loop-lane-test.true in
      sym (lane_not (lane_lets w (node_in w i c.args.self.now)) c.args.lanes c.loop-lane.lane
      (omega (arith, test)) (sym (c.lets.ensures.value w i is) ∙ c.if-not-lets.true));
}

pub returns : goal.returns
returns c = record {
  value = λ w i is. sym (c.loop-lane.invariant.all w i is)
      ∙ ap (all_lanes (lane_lets w (node_in w i c.args.self.now)))
      (let end = c.loop-lane.auto.lane-end in let past = c.loop-lane-test.false in
      omega (arith, end, past));
}
