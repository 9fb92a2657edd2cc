-- The lane in use is put back, and the other is put in use.
use Rattle.std.proofs.Common.{◌<◌, ap, length, refl, subst, sym, arith}
use Rattle.lane_machine.specs.SmpNodesInUse.{RestsAs}
use Rattle.lane_machine.proofs.NodesInUse.{number_low, put_in_use, same_is}
use Rattle.lane_machine.proofs.node.SmpNode.put_in_use.Goals as goal

pub put_lane_in_use-requires-clause-lane : goal.put_lane_in_use-requires-clause-lane
put_lane_in_use-requires-clause-lane c =
    let m = c.requires.may in
    let low = m.low in
    let count = m.is_node.lanes.count in
    let same = ap length (c.put_back.ensures.same m.rest m.rests).lanes in
    omega (arith, low, count, same)

pub put_lane_in_use-requires-clause-place : goal.put_lane_in_use-requires-clause-place
put_lane_in_use-requires-clause-place c = λ l at.
    let m = c.requires.may in
    let x = c.put_back.new.self in
    let k = c.args.lane in
    let low = m.low in
    let count = m.is_node.lanes.count in
    let kept = c.put_back.ensures.same m.rest m.rests in
    let same = ap length kept.lanes in
    let below : k < length x.lanes.items = omega (arith, low, count, same) in
    number_low m.work x k l (same_is m.work m.rest x kept m.is_node) below at

pub returns-then-not-is_alone-clause-rests : goal.returns-then-not-is_alone-clause-rests
returns-then-not-is_alone-clause-rests c = λ y r.
    let x = c.put_back.new.self in
    (x, subst (λ o. RestsAs x o x) (sym c.put_back.ensures.none) refl, c.put_back.ensures.same y r)

pub returns-clause-rests : goal.returns-clause-rests
returns-clause-rests c = λ y r.
    let m = c.requires.may in
    let x = c.put_back.new.self in
    let k = c.args.lane in
    let low = m.low in
    let count = m.is_node.lanes.count in
    let kept = c.put_back.ensures.same m.rest m.rests in
    let same = ap length kept.lanes in
    let below : k < length x.lanes.items = omega (arith, low, count, same) in (
      x,
      put_in_use m.work x k c.index.result.now c.put_lane_in_use.new.self
          (same_is m.work m.rest x kept m.is_node) below c.index.ensures
          (c.is_alone.ensures c.if-not-is_alone.false) c.put_lane_in_use.ensures,
      c.put_back.ensures.same y r,
    )
