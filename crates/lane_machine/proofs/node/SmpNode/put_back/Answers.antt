-- What is put back is the same as what the lane in use would be put back as.
use Rattle.std.proofs.Common.{subst}
use Rattle.lane_machine.specs.SmpNodesInUse.{RestsAs}
use Rattle.lane_machine.proofs.NodesInUse.{before_low}
use Rattle.lane_machine.proofs.node.SmpNode.put_back.Goals as goal

pub put_lane_back-requires-clause-lane : goal.put_lane_back-requires-clause-lane
put_lane_back-requires-clause-lane c =
    let r = c.requires.node in
    (subst (λ o. RestsAs c.args.self.now o r.1) c.in-Some.is r.2).low

pub put_lane_back-requires-clause-place : goal.put_lane_back-requires-clause-place
put_lane_back-requires-clause-place c = λ l at.
    let r = c.requires.node in
    before_low r.0 c.args.self.now c.in-Some.lane r.1 l r.3
    (subst (λ o. RestsAs c.args.self.now o r.1) c.in-Some.is r.2) at
