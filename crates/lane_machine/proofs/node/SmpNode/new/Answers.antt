-- The lanes and what they share, as at the start.
use Rattle.std.proofs.Common.{refl}
use Rattle.lane_machine.specs.declared.node.SmpNode.{SmpNode}
use Rattle.lane_machine.specs.SmpNodes.{lane_work}
use Rattle.lane_machine.proofs.FirstNodes.{first_is, first_opens}
use Rattle.lane_machine.proofs.node.SmpNode.new.Goals as goal

pub returns-clause-is_node : goal.returns-clause-is_node
returns-clause-is_node c =
    let x : SmpNode = record { lanes = c.in_ok-lanes.lanes; shared = c.in_ok-shared.shared } in
    let e = c.in_ok-shared.ensures in
    first_is (lane_work c.args.work.now) c.args.me x c.in_ok-lanes.ensures.first e.program e.layout
    e.lanes e.waits e.ended

pub returns-clause-opening : goal.returns-clause-opening
returns-clause-opening c =
    let w = lane_work c.args.work.now in
    let x : SmpNode = record { lanes = c.in_ok-lanes.lanes; shared = c.in_ok-shared.shared } in
    first_opens w c.args.me x c.in_ok-lanes.ensures.first
    (c.in_ok-shared.ensures.opening w.work refl refl)
