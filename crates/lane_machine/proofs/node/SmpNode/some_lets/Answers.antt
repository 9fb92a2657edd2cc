-- One lane more.
use Rattle.std.proofs.Common.{◌≡◌, suc, ◌+◌, ap, ◌∙◌, sym, arith}
use Rattle.std.specs.Prelude.{◌||◌}
use Rattle.lane_model.specs.Nodes.{some_lane}
use Rattle.lane_model.specs.Core.{lane_lets}
use Rattle.lane_machine.specs.SmpNodes.{node_in}
use Rattle.lane_machine.proofs.LanesTold.{lane_lets_one}
use Rattle.lane_machine.proofs.node.SmpNode.some_lets.Goals as goal

pub loop-lane-preserved : goal.loop-lane-preserved
loop-lane-preserved c = record {
  some = λ w i is.
      let f = lane_lets w (node_in w i c.args.self.now) in
      let k = c.loop-lane.lane in
      let told = sym (c.lets.ensures.value w i is) ∙ c.if-lets.false in
      let was = c.loop-lane.invariant.some w i is in
      ap (some_lane f) (let e : k + 1 ≡ suc k = omega arith in e) ∙ (λ t. told t || was t);
}

pub returns-then-lets : goal.returns-then-lets
returns-then-lets c = record {
  value = λ w i is.
      let test = c.loop-lane-test.true in
      sym (lane_lets_one (lane_lets w (node_in w i c.args.self.now)) c.args.lanes c.loop-lane.lane
      (omega (arith, test)) (sym (c.lets.ensures.value w i is) ∙ c.if-lets.true));
}

pub returns : goal.returns
returns c = record {
  value = λ w i is. sym (c.loop-lane.invariant.some w i is)
      ∙ ap (some_lane (lane_lets w (node_in w i c.args.self.now)))
      (let end = c.loop-lane.auto.lane-end in let past = c.loop-lane-test.false in
      omega (arith, end, past));
}
