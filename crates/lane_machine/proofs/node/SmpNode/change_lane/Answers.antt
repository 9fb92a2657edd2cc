-- The lane in use is put back, and the other is put in use.
use Rattle.std.proofs.Common.{◌<◌, length, subst, arith}
use Rattle.lane_machine.specs.SmpNodesInUse.{RestsAs}
use Rattle.lane_machine.proofs.NodesInUse.{before_low, entered, left_free, left_is, left_same, number_low}
use Rattle.lane_machine.proofs.node.SmpNode.change_lane.Goals as goal

pub leave_lane-requires : goal.leave_lane-requires
leave_lane-requires c =
    let m = c.requires.may in
    let x = c.args.self.now in
    let j = c.in-Some.before in
    let u = subst (λ o. RestsAs x o m.rest) c.in-Some.is m.rests in
    record {
      lane = u.low;
      place = λ l at. before_low m.work x j m.rest l m.is_node u at;
      none = c.reserves.ensures c.if-reserves.false;
    }

pub enter_lane-requires : goal.enter_lane-requires
enter_lane-requires c =
    let m = c.requires.may in
    let x = c.args.self.now in
    let j = c.in-Some.before in
    let k = c.args.lane in
    let u = subst (λ o. RestsAs x o m.rest) c.in-Some.is m.rests in
    let z = c.leave_lane.new.self in
    let s = c.leave_lane.ensures.back in
    let none = c.reserves.ensures c.if-reserves.false in
    let is = left_is m.work x j m.rest u m.is_node none z s in
    let low = m.low in
    let many = is.lanes.count in
    let below : k < length z.lanes.items = omega (arith, low, many) in
    record {
      lane = below;
      place = λ l at. number_low m.work z k l is below at;
      none = c.leave_lane.ensures.none;
      free = left_free m.work x j m.rest u m.is_node none z s;
    }

pub returns-clause-rests : goal.returns-clause-rests
returns-clause-rests c = λ yes y r.
    let m = c.requires.may in
    let x = c.args.self.now in
    let j = c.in-Some.before in
    let k = c.args.lane in
    let u = subst (λ o. RestsAs x o m.rest) c.in-Some.is m.rests in
    let z = c.leave_lane.new.self in
    let s = c.leave_lane.ensures.back in
    let none = c.reserves.ensures c.if-reserves.false in
    let is = left_is m.work x j m.rest u m.is_node none z s in
    let low = m.low in
    let many = is.lanes.count in
    let below : k < length z.lanes.items = omega (arith, low, many) in (
      z,
      entered m.work x j m.rest u m.is_node none z s k below c.enter_lane.new.self
          c.enter_lane.ensures.back,
      left_same m.work x j m.rest u m.is_node none z s y
          (subst (λ o. RestsAs x o y) c.in-Some.is r),
    )
